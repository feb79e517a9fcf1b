-- What a loop over the entries of a slice needs: the check from where the loop stands.
use Rattle.std.proofs.Common.{◌≡◌, ℕ, ◌+◌, ◌-◌, ◌<◌, ◌≤◌, Bool, true, false, cond, not, ◌&&◌, List, [], ◌∷◌, ◌++◌, map, length, get_or, take, drop, Some, None, Option, sym, refl, ap, ◌∙◌, ap₂, arith}
use Rattle.std.proofs.lemmas.List.{drop_more, drop_all, take_more, length-take-le, map-append, length-map}
use Rattle.train.specs.declared.refusal.Part.{Part}
use Rattle.train.specs.declared.refusal.Place.TheVariants.{At}
use Rattle.train.specs.declared.refusal.Reason.{Reason}
use Rattle.train.specs.declared.refusal.Refusal.{Refusal}
use Rattle.std.proofs.lemmas.Bool.{and_from}
use Rattle.train.specs.Identities.{last_identity}
use Rattle.train.specs.Names.{every}
use Rattle.train.specs.Refusals.{Check, Rule, keeps, first_breach, each, each_behind, breach, or_else, refusal, among, fresh}

-- `x` is the entry at i, as the code has it
module _ {A : Type 0} (rule : Rule A) (reason : Reason) (xs : List A) (i : ℕ) where
  -- the entry at i keeps the rule
  pub each_past : (x d : A) → x ≡ get_or xs i d → i < length xs → rule (take i xs) x ≡ true
      → each_behind rule reason (take i xs) (drop i xs) ≡ each_behind rule reason (take (i + 1) xs) (drop (i + 1) xs)
  each_past x d is h e =
      let t : rule (take i xs) (get_or xs i d) ≡ true = ap (rule (take i xs)) (sym is) ∙ e in
      rw (drop_more xs i d, take_more xs i d, t)

  -- the entry at i breaks it
  pub each_here : (part : Part) (x d : A) → x ≡ get_or xs i d → i < length xs → rule (take i xs) x ≡ false
      → breach part (each_behind rule reason (take i xs) (drop i xs)) ≡ Some (record { part = part; reason = reason; place = At (i + 1) })
  each_here part x d is h e =
      let t : rule (take i xs) (get_or xs i d) ≡ false = ap (rule (take i xs)) (sym is) ∙ e in
      let n : length (take i xs) ≡ i = length-take-le i xs (omega arith) in
      rw (drop_more xs i d, t, n)

  -- all entries have been seen
  pub each_all : (part : Part) → length xs ≤ i → breach part (each_behind rule reason (take i xs) (drop i xs)) ≡ None
  each_all part h = rw drop_all

-- one entry more, in a search for one that is like x
module _ {A : Type 0} (alike : A → A → Bool) (x : A) (ys : List A) (i : ℕ) where
  pub among_past : (y d : A) → y ≡ get_or ys i d → i < length ys → alike x y ≡ false → among alike x (drop i ys) ≡ among alike x (drop (i + 1) ys)
  among_past y d is h e = let t : alike x (get_or ys i d) ≡ false = ap (alike x) (sym is) ∙ e in rw (drop_more ys i d, t)

  pub among_here : (y d : A) → y ≡ get_or ys i d → i < length ys → alike x y ≡ true → among alike x (drop i ys) ≡ true
  among_here y d is h e = let t : alike x (get_or ys i d) ≡ true = ap (alike x) (sym is) ∙ e in rw (drop_more ys i d, t)

  pub among_none : length ys ≤ i → among alike x (drop i ys) ≡ false
  among_none h = rw drop_all

-- a rule seen through a function
module _ {A B : Type 0} (f : A → B) (rule : Rule A) (other : Rule B) (same : (before : List A) (x : A) → rule before x ≡ other (map f before) (f x)) where
  pub keeps-map : (before xs : List A) → keeps rule before xs ≡ keeps other (map f before) (map f xs)
  keeps-map before [] = refl
  keeps-map before (x ∷ xs) =
      ap₂ ◌&&◌ (same before x) (keeps-map (before ++ x ∷ []) xs ∙ ap (λ (b : List B). keeps other b (map f xs)) (map-append f before (x ∷ [])))

  pub breach-map : (before xs : List A) → first_breach rule before xs ≡ first_breach other (map f before) (map f xs)
  breach-map before [] = refl
  breach-map before (x ∷ xs) =
      ap (λ (b : Bool). cond b (first_breach rule (before ++ x ∷ []) xs) (length before + 1)) (same before x)
      ∙ ap₂ (λ (p n : ℕ). cond (other (map f before) (f x)) p (n + 1))
      (breach-map (before ++ x ∷ []) xs ∙ ap (λ (b : List B). first_breach other b (map f xs)) (map-append f before (x ∷ []))) (sym (length-map before f))

  pub each-map : (reason : Reason) (xs : List A) → each rule reason xs ≡ each other reason (map f xs)
  each-map reason xs = ap₂ (λ ok p. record { ok = ok; reason = reason; place = At p }) (keeps-map [] xs) (breach-map [] xs)

-- checks one behind another
pub refusal-joined : (part : Part) (cs ds : List Check) → refusal part (cs ++ ds) ≡ or_else (refusal part cs) (refusal part ds)
refusal-joined part [] ds = refl
refusal-joined part (c ∷ cs) ds = by (breach part c) (refusal-joined part cs ds)
  where
    by : (o : Option Refusal) → refusal part (cs ++ ds) ≡ or_else (refusal part cs) (refusal part ds)
        → or_else o (refusal part (cs ++ ds)) ≡ or_else (or_else o (refusal part cs)) (refusal part ds)
    by None e = e
    by (Some r) e = refl

-- a call that was carried out met every check, and one that was refused did not
step_met : (part : Part) (c : Check) (rest : Option Refusal) (b : Bool) → c.ok ≡ b → None ≡ or_else (breach part c) rest → (b ≡ true) × (None ≡ rest)
step_met part c rest true e h = (refl, rw e at h)
step_met part c rest false e h = let k = rw e at h in let z : ◌≡◌ {A = ℕ} 0 1 = cc in absurd (omega arith)

pub all_met : (part : Part) (cs : List Check) → None ≡ refusal part cs → every (λ c. c.ok) cs ≡ true
all_met part [] h = refl
all_met part (c ∷ cs) h =
    let w = step_met part c (refusal part cs) c.ok refl h in
    and_from c.ok (every (λ c. c.ok) cs) w.0 (all_met part cs w.1)

step_unmet : (part : Part) (c : Check) (r : Refusal) (rest : Option Refusal) (others b : Bool) → c.ok ≡ b → (Some r ≡ rest → others ≡ false)
    → Some r ≡ or_else (breach part c) rest → (b && others) ≡ false
step_unmet part c r rest others true e f h = f (rw e at h)
step_unmet part c r rest others false e f h = refl

pub not_all_met : (part : Part) (cs : List Check) (r : Refusal) → Some r ≡ refusal part cs → every (λ c. c.ok) cs ≡ false
not_all_met part [] r h = let z : ◌≡◌ {A = ℕ} 0 1 = cc in absurd (omega arith)
not_all_met part (c ∷ cs) r h = step_unmet part c r (refusal part cs) (every (λ c. c.ok) cs) c.ok refl (not_all_met part cs r) h

-- the checks of a call in two parts: the first part refuses it, or what is left answers
pub first_refuses : (part : Part) (cs ds : List Check) (r : Refusal) → Some r ≡ refusal part cs → Some r ≡ refusal part (cs ++ ds)
first_refuses part cs ds r h = sym (refusal-joined part cs ds ∙ ap (λ o. or_else o (refusal part ds)) (sym h))

or_else_none : {A : Type 0} (o : Option A) → or_else o None ≡ o
or_else_none None = refl
or_else_none (Some x) = refl

pub last_answers : (part : Part) (cs : List Check) (c : Check) (o : Option Refusal) → None ≡ refusal part cs → o ≡ breach part c → o ≡ refusal part (cs ++ c ∷ [])
last_answers part cs c o h e =
    e ∙ sym (refusal-joined part cs (c ∷ []) ∙ ap (λ q. or_else q (refusal part (c ∷ []))) (sym h) ∙ or_else_none (breach part c))

pub then_answers : (part : Part) (cs ds : List Check) (o : Option Refusal) → None ≡ refusal part cs → o ≡ refusal part ds → o ≡ refusal part (cs ++ ds)
then_answers part cs ds o h e = e ∙ sym (refusal-joined part cs ds ∙ ap (λ q. or_else q (refusal part ds)) (sym h))

-- the entries before the i-th, as the code lends them
pub fresh_told : {A : Type 0} (alike : A → A → Bool) (xs : List A) (i : ℕ) (x : A) (b : Bool) → b ≡ among alike x (take (i - 0) xs) → fresh alike (take i xs) x ≡ not b
fresh_told alike xs i x b e =
    let z : i - 0 ≡ i = omega arith in
    ap not (sym (e ∙ ap (λ (n : ℕ). among alike x (take n xs)) z))

-- the identity before, one entry on
pub last_added : {A : Type 0} (of : A → List ℕ) (before : List A) (x : A) → last_identity of (before ++ x ∷ []) ≡ of x
last_added of [] x = refl
last_added of (y ∷ []) x = refl
last_added of (y ∷ z ∷ zs) x = last_added of (z ∷ zs) x

pub last_more : {A : Type 0} (of : A → List ℕ) (xs : List A) (i : ℕ) (x d : A) → x ≡ get_or xs i d → i < length xs → of x ≡ last_identity of (take (i + 1) xs)
last_more of xs i x d is h = ap of is ∙ sym (ap (last_identity of) (take_more xs i d h) ∙ last_added of (take i xs) (get_or xs i d))
