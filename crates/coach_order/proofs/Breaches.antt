-- Rules for the entries of a list: seen through a function, and where the first breach stands.
use Rattle.std.proofs.Common.{◌≡◌, ℕ, ◌+◌, ◌≤◌, Bool, true, false, cond, ◌&&◌, ◌||◌, List, [], ◌∷◌, ◌++◌, map, length, Some, None, Option, refl, ap, ap₂, arith, length-append}
use Rattle.train.specs.declared.refusal.Part.{Part}
use Rattle.train.specs.declared.refusal.Refusal.{Refusal}
use Rattle.train.specs.Names.{every}
use Rattle.train.specs.Refusals.{Check, Rule, among, by, keeps, first_breach, or_else, refusal}

-- a check that is met decides nothing
pub ok_first : (p : Part) (c : Check) (cs : List Check) → c.ok ≡ true → refusal p (c ∷ cs) ≡ refusal p cs
ok_first p c cs e = ap (λ (b : Bool). or_else (cond b None (Some (record { part = p; reason = c.reason; place = c.place }))) (refusal p cs)) e

pub or_none : (o : Option Refusal) → or_else o None ≡ o
or_none None = refl
or_none (Some f) = refl

pub every_yes : {A : Type 0} (good : A → Bool) → ((x : A) → good x ≡ true) → (xs : List A) → every good xs ≡ true
every_yes good h [] = refl
every_yes good h (x ∷ xs) = ap₂ ◌&&◌ (h x) (every_yes good h xs)

-- entries that are told apart by something of theirs
pub among-map : {A B C : Type 0} (same : C → C → Bool) (f : A → B) (key : B → C) (x : A) (xs : List A) → among (by same (λ a. key (f a))) x xs ≡ among (by same key) (f x) (map f xs)
among-map same f key x [] = refl
among-map same f key x (y ∷ ys) = ap (λ (b : Bool). same (key (f x)) (key (f y)) || b) (among-map same f key x ys)

-- where a rule is broken, the first breach is at one of the entries
abbrev pub Within : ℕ → ℕ → ℕ → Type 0
Within n k p = (n + 1 ≤ p) × (p ≤ n + k)

pub breach_within : {A : Type 0} (rule : Rule A) (before xs : List A) → keeps rule before xs ≡ false → Within (length before) (length xs) (first_breach rule before xs)
breach_within rule before [] e = let z : ◌≡◌ {A = ℕ} 0 1 = cc in absurd (omega arith)
breach_within rule before (x ∷ xs) e = by_test (rule before x) e (λ q. breach_within rule (before ++ x ∷ []) xs q)
  where
    by_test : (b : Bool) → (b && keeps rule (before ++ x ∷ []) xs) ≡ false
        → (keeps rule (before ++ x ∷ []) xs ≡ false → Within (length (before ++ x ∷ [])) (length xs) (first_breach rule (before ++ x ∷ []) xs))
        → Within (length before) (length (x ∷ xs)) (cond b (first_breach rule (before ++ x ∷ []) xs) (length before + 1))
    by_test true q h =
        let w = h q in
        let a = w.0 in
        let b = w.1 in
        let l = length-append before (x ∷ []) in
        (omega arith, omega arith)
    by_test false q h = (omega arith, omega arith)
