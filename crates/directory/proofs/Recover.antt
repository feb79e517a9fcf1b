-- The cars from the head, read back from the operational sections.
use Rattle.std.proofs.Common.{◌≡◌, ℕ, ◌+◌, Bool, true, false, List, [], ◌∷◌, map, sym, refl, ap, ◌∙◌, ap₂, arith}
use Rattle.train.proofs.Equal.{same_identity_decides}
use Rattle.train.specs.declared.facing.Facing.{Facing}
use Rattle.train.specs.Identities.{same_identity}
use Rattle.train.specs.declared.identity.Identity.{Identity}
use Rattle.directory.specs.declared.cars.Car.{Car}
use Rattle.directory.specs.Sections.{firsts, seats}
use Rattle.directory.proofs.RowTells.{spot_of, row_of}
use Rattle.directory.proofs.Vocabulary.{nowhere}

-- the cars of one run stand alike
abbrev pub Uniform : Identity → Facing → List Car → Type 0
Uniform k p [] = Unit {0}
Uniform k p (c ∷ cs) = (k ≡ c.consist → c.stance ≡ p) × Uniform c.consist c.stance cs

uniform_on : (k : Identity) (p : Facing) (c : Car) (cs : List Car) → k ≡ c.consist → Uniform k p (c ∷ cs) → Uniform k p cs
uniform_on k p c cs e u = rw (e, ← u.0 e) u.1

pub car_same : (c d : Car) → c.consist ≡ d.consist → c.stance ≡ d.stance → c.name ≡ d.name → c.facing ≡ d.facing → c.lead ≡ d.lead → c ≡ d
car_same c d p q r s t = λ i. record { consist = p i; stance = q i; name = r i; facing = s i; lead = t i }

abbrev ReadBack : ℕ → Identity → Facing → List Car → List Car → Type 0
ReadBack n k p cs ds =
    Uniform k p cs → Uniform k p ds → map spot_of (firsts k cs) ≡ map spot_of (firsts k ds) → map row_of (seats n k cs) ≡ map row_of (seats n k ds) → cs ≡ ds

lone : (n : ℕ) (k : Identity) (d : Car) (ds : List Car) (b : Bool) → same_identity k d.consist ≡ b → [] ≡ map row_of (seats n k (d ∷ ds)) → ⊥
lone n k d ds true q f = let g = rw q at f in nowhere (cc)
lone n k d ds false q f = let g = rw q at f in nowhere (cc)

step : (n : ℕ) (k : Identity) (p : Facing) (c d : Car) (cs ds : List Car) → ((n' : ℕ) (k' : Identity) (p' : Facing) → ReadBack n' k' p' cs ds) → (a : Bool)
    → same_identity k c.consist ≡ a → (b : Bool) → same_identity k d.consist ≡ b → ReadBack n k p (c ∷ cs) (d ∷ ds)
step n k p c d cs ds rec true q true r u v e f =
    let e' = rw (q, r) at e in
    let f' = rw (q, r) at f in
    let kc : k ≡ c.consist = (same_identity_decides k c.consist).0 q in
    let kd : k ≡ d.consist = (same_identity_decides k d.consist).0 r in
    let sc : c.stance ≡ p = u.0 kc in
    let sd : d.stance ≡ p = v.0 kd in
    let tail : map row_of (seats n k cs) ≡ map row_of (seats n k ds) = cc in
    let row : row_of (record { car = c; run = n }) ≡ row_of (record { car = d; run = n }) = cc in
    ap₂ (λ a b. a ∷ b)
    (car_same c d (sym kc ∙ kd) (sc ∙ sym sd) (ap (λ z. z.name) row) (ap (λ z. z.facing) row) (ap (λ z. z.lead) row))
    (rec n k p (uniform_on k p c cs kc u) (uniform_on k p d ds kd v) e' tail)
step n k p c d cs ds rec true q false r u v e f =
    let f' = rw (q, r) at f in
    let row : row_of (record { car = c; run = n }) ≡ row_of (record { car = d; run = n + 1 }) = cc in
    let b : n ≡ n + 1 = ap (λ z. z.run) row in
    absurd (omega arith)
step n k p c d cs ds rec false q true r u v e f =
    let f' = rw (q, r) at f in
    let row : row_of (record { car = c; run = n + 1 }) ≡ row_of (record { car = d; run = n }) = cc in
    let b : n + 1 ≡ n = ap (λ z. z.run) row in
    absurd (omega arith)
step n k p c d cs ds rec false q false r u v e f =
    let e' = rw (q, r) at e in
    let f' = rw (q, r) at f in
    let place : spot_of c ≡ spot_of d = cc in
    let row : row_of (record { car = c; run = n + 1 }) ≡ row_of (record { car = d; run = n + 1 }) = cc in
    let same : c ≡ d = car_same c d (ap (λ z. z.who) place) (ap (λ z. z.stands) place) (ap (λ z. z.name) row) (ap (λ z. z.facing) row) (ap (λ z. z.lead) row) in
    let places : map spot_of (firsts c.consist cs) ≡ map spot_of (firsts c.consist ds) = cc in
    let tail : map row_of (seats (n + 1) c.consist cs) ≡ map row_of (seats (n + 1) c.consist ds) = cc in
    ap₂ (λ a b. a ∷ b) same (rec (n + 1) c.consist c.stance u.1 (rw same v.1) places tail)

pub read_back : (n : ℕ) (k : Identity) (p : Facing) (cs ds : List Car) → ReadBack n k p cs ds
read_back n k p [] [] u v e f = refl
read_back n k p [] (d ∷ ds) u v e f = absurd (lone n k d ds (same_identity k d.consist) refl f)
read_back n k p (c ∷ cs) [] u v e f = absurd (lone n k c cs (same_identity k c.consist) refl (sym f))
read_back n k p (c ∷ cs) (d ∷ ds) u v e f =
    step n k p c d cs ds (λ n' k' p'. read_back n' k' p' cs ds) (same_identity k c.consist) refl (same_identity k d.consist) refl u v e f
