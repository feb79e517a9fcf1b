-- Laying out the vehicles of a consist and of a formation.
use Rattle.std.proofs.Common.{◌≡◌, ℕ, zero, suc, sum_by, ◌+◌, ◌<◌, ◌≤◌, List, [], ◌∷◌, ◌++◌, reverse, length, get_or, take, drop, is_some, Some, None, Option, sym, refl, ap, ◌∙◌, append_assoc, add-one, arith}
use Rattle.std.specs.List.{flat_map, slice_get}
use Rattle.std.proofs.lemmas.List.Concat.{length-flat_map}
use Rattle.std.proofs.lemmas.List.{take_more, length-append, length-map, length-reverse, length-take-le, append-nil, take-append-drop}
use Rattle.train.specs.declared.identity.Identity.{Identity}
use Rattle.train.specs.declared.entries.Coupled.{Coupled}
use Rattle.train.specs.declared.entries.Vehicle.{Vehicle}
use Rattle.train.specs.declared.facing.Facing.{Facing}
use Rattle.train.specs.declared.facing.Facing.TheVariants.{NotKnown, Direct, Inverse}
use Rattle.fleet.specs.Fleets.{Consist, Meaning, Lawful, vehicles_of, vehicle_in, found_in}
use Rattle.bench.specs.declared.claims.Claim.{Claim}
use Rattle.directory.specs.declared.cars.Car.{Car}
use Rattle.directory.specs.Cars.{mark, cars, met, stretch, train, turned_car}
use Rattle.train.specs.Turning.{turned_list}

pub length-cars : (x : Identity) (claim : Option Claim) (k : ℕ) (vs : List Vehicle) → length (cars x claim k vs) ≡ length vs
length-cars x claim k [] = refl
length-cars x claim k (v ∷ vs) = ap suc (length-cars x claim (k + 1) vs)

pub length-met : {A : Type 0} (turn : A → A) (o : Facing) (xs : List A) → length (met turn o xs) ≡ length xs
length-met turn NotKnown xs = refl
length-met turn Direct xs = refl
length-met turn Inverse xs = length-map (reverse xs) turn ∙ length-reverse xs

pub length-stretch : (m : Meaning) (claims : Identity → Option Claim) (e : Coupled) → length (stretch m claims e) ≡ length (vehicles_of (m e.identity))
length-stretch m claims e = length-met turned_car e.facing _ ∙ length-cars e.identity (claims e.identity) 1 (vehicles_of (m e.identity))

-- one vehicle more at the end
pub cars_push : (x : Identity) (claim : Option Claim) (k : ℕ) (vs : List Vehicle) (v : Vehicle)
    → cars x claim k (vs ++ v ∷ []) ≡ cars x claim k vs ++ record { consist = x; stance = Direct; name = v.name; facing = v.facing; lead = mark claim (k + length vs) } ∷ []
cars_push x claim k [] v = let z : k + 0 ≡ k = omega arith in rw z
cars_push x claim k (w ∷ vs) v =
    let z : k + 1 + length vs ≡ k + suc (length vs) = omega arith in
    ap (λ cs. record { consist = x; stance = Direct; name = w.name; facing = w.facing; lead = mark claim k } ∷ cs)
    (cars_push x claim (k + 1) vs v ∙ ap (λ n. cars x claim (k + 1) vs ++ record { consist = x; stance = Direct; name = v.name; facing = v.facing; lead = mark claim n } ∷ []) z)

-- the first k vehicles stand behind what was `before`
pub record Loading (x : Identity) (claim : Option Claim) (vs : List Vehicle) (k : ℕ) (before now : List Car) : Type 0 where
  pub laid : now ≡ before ++ cars x claim 1 (take k vs)
  pub enough : k ≤ length vs

pub nth_some : {A : Type 0} (xs : List A) (i : ℕ) (x : A) → slice_get xs i ≡ Some x → (i < length xs) × (x ≡ get_or xs i x)
nth_some [] i x e = let z : ◌≡◌ {A = ℕ} 0 1 = cc in absurd (omega arith)
nth_some (y ∷ ys) zero x e = (omega arith, cc)
nth_some (y ∷ ys) (suc i) x e = let r = nth_some ys i x e in (omega (arith, r.0), r.1)

pub loading_more : (x : Identity) (claim : Option Claim) (vs : List Vehicle) (k : ℕ) (before now : List Car) (v : Vehicle) (lead : Facing)
    → Loading x claim vs k before now → slice_get vs k ≡ Some v → lead ≡ mark claim (k + 1)
    → Loading x claim vs (k + 1) before (now ++ record { consist = x; stance = Direct; name = v.name; facing = v.facing; lead = lead } ∷ [])
loading_more x claim vs k before now v lead l e le =
    let r = nth_some vs k v e in
    let long : length (take k vs) ≡ k = length-take-le k vs l.enough in
    let car : Car = record { consist = x; stance = Direct; name = v.name; facing = v.facing; lead = lead } in
    let one : 1 + length (take k vs) ≡ k + 1 = omega (arith, long) in
    let same : mark claim (1 + length (take k vs)) ≡ lead = ap (mark claim) one ∙ sym le in
    let more : cars x claim 1 (take (k + 1) vs) ≡ cars x claim 1 (take k vs) ++ car ∷ [] =
    ap (cars x claim 1) (take_more vs k v r.0 ∙ ap (λ w. take k vs ++ w ∷ []) (sym r.1))
    ∙ cars_push x claim 1 (take k vs) v
    ∙ ap (λ d. cars x claim 1 (take k vs) ++ record { consist = x; stance = Direct; name = v.name; facing = v.facing; lead = d } ∷ []) same in
    record {
      laid = ap (λ xs. xs ++ car ∷ []) l.laid ∙ append_assoc before (cars x claim 1 (take k vs)) (car ∷ []) ∙ ap (λ xs. before ++ xs) (sym more);
      enough = omega (arith, r.0);
    }

-- there is room for one vehicle more
pub loading_room : (x : Identity) (claim : Option Claim) (vs : List Vehicle) (k most : ℕ) (before now : List Car) (v : Vehicle)
    → Loading x claim vs k before now → slice_get vs k ≡ Some v → length before + length vs ≤ most → length now < most
loading_room x claim vs k most before now v l e room =
    let r = nth_some vs k v e in
    let long = ap length l.laid ∙ length-append before (cars x claim 1 (take k vs)) in
    let taken = length-cars x claim 1 (take k vs) ∙ length-take-le k vs l.enough in
    omega (arith, r.0, long, taken, room)

-- the length of the train, entry by entry
pub length-train : (m : Meaning) (claims : Identity → Option Claim) (es : List Coupled) → length (train m claims es) ≡ sum_by (λ e. length (vehicles_of (m e.identity))) es
length-train m claims es = length-flat_map (stretch m claims) es ∙ ap (λ (f : Coupled → ℕ). sum_by f es) (λ i e. length-stretch m claims e i)

-- what the fleet's questions answer
pub asked : (o : Option Consist) (k : ℕ) → vehicle_in o (k + 1) ≡ slice_get (vehicles_of o) k
asked o k = rw add-one

pub few_vehicles : (o : Option Consist) → Lawful o → length (vehicles_of o) ≤ 32
few_vehicles None l = omega arith
few_vehicles (Some c) l = l.few

pub found_some : (o : Option Consist) → is_some (found_in o) ≡ is_some o
found_some None = refl
found_some (Some c) = refl

pub met_inverse : (m : Meaning) (claims : Identity → Option Claim) (e : Coupled) → e.facing ≡ Inverse
    → turned_list turned_car (cars e.identity (claims e.identity) 1 (vehicles_of (m e.identity))) ≡ stretch m claims e
met_inverse m claims e q = sym (ap (λ o. met turned_car o (cars e.identity (claims e.identity) 1 (vehicles_of (m e.identity)))) q)

pub joined-append : {A B : Type 0} (f : A → List B) (xs ys : List A) → flat_map f (xs ++ ys) ≡ flat_map f xs ++ flat_map f ys
joined-append f [] ys = refl
joined-append f (x ∷ xs) ys = ap (λ z. f x ++ z) (joined-append f xs ys) ∙ sym (append_assoc (f x) (flat_map f xs) (flat_map f ys))

pub train_more : (m : Meaning) (claims : Identity → Option Claim) (es : List Coupled) (i : ℕ) (d : Coupled) → i < length es
    → train m claims (take i es) ++ stretch m claims (get_or es i d) ≡ train m claims (take (i + 1) es)
train_more m claims es i d h =
    sym (ap (train m claims) (take_more es i d h) ∙ joined-append (stretch m claims) (take i es) (get_or es i d ∷ [])
    ∙ ap (λ z. train m claims (take i es) ++ z) (append-nil (stretch m claims (get_or es i d))))

-- the train up to an entry, and with it, is no longer than the whole
pub train_room : (m : Meaning) (claims : Identity → Option Claim) (es : List Coupled) (i : ℕ) (d : Coupled) → i < length es
    → length (train m claims (take i es)) + length (vehicles_of (m (get_or es i d).identity)) ≤ length (train m claims es)
train_room m claims es i d h =
    let whole : train m claims es ≡ train m claims (take (i + 1) es) ++ train m claims (drop (i + 1) es) =
    ap (train m claims) (sym (take-append-drop (i + 1) es)) ∙ joined-append (stretch m claims) (take (i + 1) es) (drop (i + 1) es) in
    let one = ap length whole ∙ length-append (train m claims (take (i + 1) es)) (train m claims (drop (i + 1) es)) in
    let two = ap length (sym (train_more m claims es i d h)) ∙ length-append (train m claims (take i es)) (stretch m claims (get_or es i d)) in
    let three = length-stretch m claims (get_or es i d) in
    omega arith
