-- What the questions answer, by the meaning.
use Rattle.std.proofs.Common.{◌≡◌, ℕ, ◌≤◌, true, List, [], ◌∷◌, length, is_some, Some, None, Option, sym, refl, ap, ◌∙◌, arith}
use Rattle.std.specs.List.{slice_get}
use Rattle.train.specs.declared.entries.Vehicle.{Vehicle}
use Rattle.fleet.specs.declared.questions.Found.{Found}
use Rattle.fleet.specs.Fleets.{Consist, Lawful, found_in, vehicles_of, vehicle_in, last_of}
use Rattle.fleet.specs.Heads.{never}

last_nth : {A : Type 0} (x : A) (xs : List A) → slice_get (x ∷ xs) (length xs) ≡ last_of (x ∷ xs)
last_nth x [] = refl
last_nth x (y ∷ ys) = last_nth y ys

last_at : (c : Consist) (vs : List Vehicle) → c.vehicles ≡ vs → vehicle_in (Some c) (length vs) ≡ last_of vs
last_at c [] e = refl
last_at c (v ∷ vs) e = ap (λ ws. slice_get ws (length vs)) e ∙ last_nth v vs

some_last : {A : Type 0} (xs : List A) → 1 ≤ length xs → is_some (last_of xs) ≡ true
some_last [] h = absurd (omega arith)
some_last (x ∷ []) h = refl
some_last (x ∷ y ∷ ys) h = some_last (y ∷ ys) (omega arith)

-- a consist that was found: its last vehicle is the one that its count numbers
pub last_found : (o : Option Consist) (f : Found) → Some f ≡ found_in o → vehicle_in o f.count ≡ last_of (vehicles_of o)
last_found None f e = never f e
last_found (Some c) f e =
    let n : f.count ≡ length c.vehicles = count_of f _ e in
    ap (vehicle_in (Some c)) n ∙ last_at c c.vehicles refl
  where
    counted : Option Found → ℕ
    counted None = 0
    counted (Some g) = g.count

    count_of : (f g : Found) → Some f ≡ Some g → f.count ≡ g.count
    count_of f g e = ap counted e

pub last_present : (o : Option Consist) (f : Found) → Lawful o → Some f ≡ found_in o → is_some (last_of (vehicles_of o)) ≡ is_some o
last_present None f l e = refl
last_present (Some c) f l e = some_last c.vehicles l.some

pub none_found : (o : Option Consist) → None ≡ found_in o → o ≡ None
none_found None e = refl
none_found (Some c) e = never _ (sym e)
