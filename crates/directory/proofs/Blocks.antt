-- The formation and its consists' vehicles, read back from the cars along the train.
use Rattle.std.proofs.Common.{◌≡◌, ℕ, suc, ◌+◌, ◌<◌, ◌≤◌, List, [], ◌∷◌, ◌++◌, reverse, length, Option, sym, refl, ap, ◌∙◌, subst, ap₂, ⊎_elim, arith, length-append}
use mathlib.Core.List.{reverse-cons}
use Rattle.std.specs.List.{AllByRecursion}
use Rattle.std.proofs.ByRecursion.{All-append, All-map, All-weaker}
use Rattle.std.proofs.lemmas.Bool.{cases_eq}
use Rattle.train.specs.declared.facing.Facing.{Facing}
use Rattle.train.specs.declared.facing.Facing.TheVariants.{NotKnown, Direct, Inverse}
use Rattle.train.specs.declared.entries.Coupled.{Coupled}
use Rattle.train.specs.declared.entries.Vehicle.{Vehicle}
use Rattle.train.specs.declared.identity.Identity.{Identity}
use Rattle.bench.specs.declared.claims.Claim.{Claim}
use Rattle.fleet.specs.Fleets.{Meaning, vehicles_of}
use Rattle.directory.proofs.Vocabulary.{Known, nowhere}
use Rattle.train.specs.Facings.{opposite}
use Rattle.train.specs.Turning.{turned_list}
use Rattle.directory.specs.Cars.{met, turned_car, cars, mark, stretch, train}
use Rattle.directory.specs.declared.cars.Car.{Car}
use Rattle.train.proofs.Turns.{turned_twice}
use Rattle.directory.proofs.Turns.{length_turned}
use Rattle.directory.proofs.Heart.{turned_car_twice}

-- two lists that begin with all the cars of one consist
pub blocks : (x : Identity) (a b s t : List Car) → AllByRecursion (λ c. c.consist ≡ x) a → AllByRecursion (λ c. c.consist ≡ x) b → AllByRecursion (λ c. c.consist ≡ x → ⊥) s
    → AllByRecursion (λ c. c.consist ≡ x → ⊥) t → a ++ s ≡ b ++ t → (a ≡ b) × (s ≡ t)
blocks x [] [] s t ha hb hs ht p = (refl, p)
blocks x [] (b ∷ bs) [] t ha hb hs ht p = nowhere (cc)
blocks x [] (b ∷ bs) (c ∷ s) t ha hb hs ht p = let e : c ≡ b = cc in absurd (hs.0 (ap (λ z. z.consist) e ∙ hb.0))
blocks x (a ∷ as') [] s [] ha hb hs ht p = nowhere (cc)
blocks x (a ∷ as') [] s (d ∷ t) ha hb hs ht p = let e : d ≡ a = cc in absurd (ht.0 (ap (λ z. z.consist) e ∙ ha.0))
blocks x (a ∷ as') (b ∷ bs) s t ha hb hs ht p =
    let e : a ≡ b = cc in
    let w = blocks x as' bs s t ha.1 hb.1 hs ht (cc) in
    (ap₂ (λ y ys. y ∷ ys) e w.0, w.1)

pub all_reverse : {X : Type 0} (P : X → Type 0) (xs : List X) → AllByRecursion P xs → AllByRecursion P (reverse xs)
all_reverse P [] h = tt
all_reverse P (x ∷ xs) h = subst (AllByRecursion P) (sym (reverse-cons x xs)) (All-append P (reverse xs) (x ∷ []) (all_reverse P xs h.1) (h.0, tt))

-- a car of the entry e
abbrev pub Of : Coupled → Car → Type 0
Of e c = (c.consist ≡ e.identity) × (c.stance ≡ e.facing)

cars_own : (x : Identity) (o : Option Claim) (k : ℕ) (vs : List Vehicle) → AllByRecursion (λ c. (c.consist ≡ x) × (c.stance ≡ Direct)) (cars x o k vs)
cars_own x o k [] = tt
cars_own x o k (v ∷ vs) = ((refl, refl), cars_own x o (k + 1) vs)

length-cars : (x : Identity) (o : Option Claim) (k : ℕ) (vs : List Vehicle) → length (cars x o k vs) ≡ length vs
length-cars x o k [] = refl
length-cars x o k (v ∷ vs) = ap suc (length-cars x o (k + 1) vs)

met_own : (e : Coupled) (f : Facing) → Known f → e.facing ≡ f → (cs : List Car) → AllByRecursion (λ c. (c.consist ≡ e.identity) × (c.stance ≡ Direct)) cs
    → AllByRecursion (Of e) (met turned_car f cs)
met_own e NotKnown k q cs h = absurd k
met_own e Direct k q cs h = All-weaker _ (Of e) (λ c w. (w.0, w.1 ∙ sym q)) cs h
met_own e Inverse k q cs h =
    All-map (Of e) turned_car (reverse cs) (all_reverse (λ c. Of e (turned_car c)) cs (All-weaker _ (λ c. Of e (turned_car c)) (λ c w. (w.0, ap opposite w.1 ∙ sym q)) cs h))

length-met : (f : Facing) (cs : List Car) → length (met turned_car f cs) ≡ length cs
length-met NotKnown cs = refl
length-met Direct cs = refl
length-met Inverse cs = length_turned turned_car cs

met_tells : (f : Facing) (cs ds : List Car) → met turned_car f cs ≡ met turned_car f ds → cs ≡ ds
met_tells NotKnown cs ds p = p
met_tells Direct cs ds p = p
met_tells Inverse cs ds p = sym (turned_twice turned_car turned_car_twice cs) ∙ ap (turned_list turned_car) p ∙ turned_twice turned_car turned_car_twice ds

pub stretch_own : (m : Meaning) (claims : Identity → Option Claim) (e : Coupled) → Known e.facing → AllByRecursion (Of e) (stretch m claims e)
stretch_own m claims e k = met_own e e.facing k refl _ (cars_own e.identity (claims e.identity) 1 (vehicles_of (m e.identity)))

length-stretch : (m : Meaning) (claims : Identity → Option Claim) (e : Coupled) → length (stretch m claims e) ≡ length (vehicles_of (m e.identity))
length-stretch m claims e = length-met e.facing _ ∙ length-cars e.identity (claims e.identity) 1 _

-- no identity twice
abbrev pub Distinct : List Coupled → Type 0
Distinct [] = Unit {0}
Distinct (e ∷ es) = AllByRecursion (λ d. d.identity ≡ e.identity → ⊥) es × Distinct es

-- an entry that has vehicles
abbrev pub Full : Meaning → Coupled → Type 0
Full m e = Known e.facing × (1 ≤ length (vehicles_of (m e.identity)))

others : (m : Meaning) (claims : Identity → Option Claim) (x : Identity) (es : List Coupled) → AllByRecursion (λ d. d.identity ≡ x → ⊥) es → AllByRecursion (Full m) es
    → AllByRecursion (λ c. c.consist ≡ x → ⊥) (train m claims es)
others m claims x [] h g = tt
others m claims x (e ∷ es) h g =
    All-append _ (stretch m claims e) (train m claims es)
    (All-weaker (Of e) _ (λ c w q. h.0 (sym w.0 ∙ q)) (stretch m claims e) (stretch_own m claims e g.0.0))
    (others m claims x es h.1 g.1)

begins : (xs : List Car) → 1 ≤ length xs → (c : Car) × (cs : List Car) × (xs ≡ c ∷ cs)
begins [] h = absurd (omega arith)
begins (x ∷ xs) h = (x, xs, refl)

entry_same : (e f : Coupled) → e.identity ≡ f.identity → e.facing ≡ f.facing → e ≡ f
entry_same e f p q = λ i. record { identity = p i; facing = q i }

empty_not : (n : Meaning) (l : Identity → Option Claim) (f : Coupled) (fs : List Coupled) → Full n f → [] ≡ train n l (f ∷ fs) → ⊥
empty_not n l f fs h p =
    let a : length (stretch n l f) ≡ length (vehicles_of (n f.identity)) = length-stretch n l f in
    let b : 0 ≡ length (stretch n l f) + length (train n l fs) = ap length p ∙ length-append (stretch n l f) (train n l fs) in
    omega arith

module _ (m n : Meaning) (k l : Identity → Option Claim) where
  abbrev pub Cars : Coupled → Type 0
  Cars e = cars e.identity (k e.identity) 1 (vehicles_of (m e.identity)) ≡ cars e.identity (l e.identity) 1 (vehicles_of (n e.identity))

  -- the entries are the same, since the first cars are
  heads : (e f : Coupled) (s t : List Car) → Full m e → Full n f → stretch m k e ++ s ≡ stretch n l f ++ t → e ≡ f
  heads e f s t h g p =
      let a = begins (stretch m k e) (rw length-stretch h.1) in
      let b = begins (stretch n l f) (rw length-stretch g.1) in
      let oa : Of e a.0 = (subst (AllByRecursion (Of e)) a.2 (stretch_own m k e h.0)).0 in
      let ob : Of f b.0 = (subst (AllByRecursion (Of f)) b.2 (stretch_own n l f g.0)).0 in
      let q : a.0 ∷ (a.1 ++ s) ≡ b.0 ∷ (b.1 ++ t) = sym (ap (λ z. z ++ s) a.2) ∙ p ∙ ap (λ z. z ++ t) b.2 in
      let c : a.0 ≡ b.0 = cc in
      entry_same e f (sym oa.0 ∙ ap (λ z. z.consist) c ∙ ob.0) (sym oa.1 ∙ ap (λ z. z.stance) c ∙ ob.1)

  pub train_tells : (es fs : List Coupled) → Distinct es → Distinct fs → AllByRecursion (Full m) es → AllByRecursion (Full n) fs → train m k es ≡ train n l fs → (es ≡ fs) × AllByRecursion Cars es
  train_tells [] [] d d' h g p = (refl, tt)
  train_tells [] (f ∷ fs) d d' h g p = absurd (empty_not n l f fs g.0 p)
  train_tells (e ∷ es) [] d d' h g p = absurd (empty_not m k e es h.0 (sym p))
  train_tells (e ∷ es) (f ∷ fs) d d' h g p =
      let q : e ≡ f = heads e f (train m k es) (train n l fs) h.0 g.0 p in
      let p' : stretch m k e ++ train m k es ≡ stretch n l e ++ train n l fs = subst (λ z. stretch m k e ++ train m k es ≡ stretch n l z ++ train n l fs) (sym q) p in
      let n' : AllByRecursion (λ d. d.identity ≡ e.identity → ⊥) fs = subst (λ (z : Coupled). AllByRecursion (λ d. d.identity ≡ z.identity → ⊥) fs) (sym q) d'.0 in
      let w =
      blocks e.identity (stretch m k e) (stretch n l e) (train m k es) (train n l fs)
      (All-weaker (Of e) _ (λ c z. z.0) _ (stretch_own m k e h.0.0))
      (All-weaker (Of e) _ (λ c z. z.0) _ (stretch_own n l e h.0.0))
      (others m k e.identity es d.0 h.1)
      (others n l e.identity fs n' g.1)
      p' in
      let r = train_tells es fs d.1 d'.1 h.1 g.1 w.1 in
      (ap₂ (λ y ys. y ∷ ys) q r.0, (met_tells e.facing _ _ w.0, r.1))

vehicle_same : (v w : Vehicle) → v.name ≡ w.name → v.facing ≡ w.facing → v ≡ w
vehicle_same v w p q = λ i. record { name = p i; facing = q i }

-- a consist's cars tell its vehicles, and where the lead stands
pub cars_tell : (x : Identity) (o q : Option Claim) (k : ℕ) (vs ws : List Vehicle) → cars x o k vs ≡ cars x q k ws
    → (vs ≡ ws) × ((i : ℕ) → k ≤ i → i < k + length vs → mark o i ≡ mark q i)
cars_tell x o q k [] [] p = (refl, λ i h g. absurd (omega arith))
cars_tell x o q k [] (w ∷ ws) p = nowhere (cc)
cars_tell x o q k (v ∷ vs) [] p = nowhere (cc)
cars_tell x o q k (v ∷ vs) (w ∷ ws) p =
    let c : Car = record { consist = x; stance = Direct; name = v.name; facing = v.facing; lead = mark o k } in
    let d : Car = record { consist = x; stance = Direct; name = w.name; facing = w.facing; lead = mark q k } in
    let e : c ≡ d = cc in
    let r = cars_tell x o q (k + 1) vs ws (cc) in (
      ap₂ (λ y ys. y ∷ ys) (vehicle_same v w (ap (λ z. z.name) e) (ap (λ z. z.facing) e)) r.0,
      λ i h g. ⊎_elim (λ s. rw s (ap (λ z. z.lead) e)) (λ s. r.1 i (omega arith) (omega arith)) (cases_eq i k),
    )
