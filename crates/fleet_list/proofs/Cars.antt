-- Vehicles behind one another.
use Rattle.std.proofs.Common.{◌≡◌, ℕ, suc, ◌+◌, ◌<◌, ◌≤◌, ◌⊎◌, List, [], ◌∷◌, ◌++◌, length, refl, ap, inl, inr, append_assoc, arith}
use Rattle.std.specs.List.{flat_map}
use Rattle.train.proofs.Bytes.{nowhere}
use Rattle.train.specs.Names.{IsName}
use Rattle.train.specs.declared.entries.Vehicle.{Vehicle}
use Rattle.train.specs.declared.facing.Facing.TheVariants.{NotKnown, Direct, Inverse}
use Rattle.fleet_list.specs.Forms.{Front}
use Rattle.fleet_list.specs.Parts.{name_text, Known, GoodCar, car, spaced, others, Few, car_of, cars}
use Rattle.fleet_list.specs.Texts.{sign}
use Rattle.fleet_list.proofs.Pads.{front_named}
use Rattle.fleet_list.proofs.Seq.{First, front_both}
use Rattle.fleet_list.proofs.Series.{Many, Apart, front_many}

front_sign : Front Known sign
front_sign NotKnown v w w' g g' e = nowhere g
front_sign Direct NotKnown w w' g g' e = nowhere g'
front_sign Direct Direct w w' g g' e = (refl, cc)
front_sign Direct Inverse w w' g g' e = let z : ◌≡◌ {A = ℕ} 43 45 = cc in absurd (omega arith)
front_sign Inverse NotKnown w w' g g' e = nowhere g'
front_sign Inverse Direct w w' g g' e = let z : ◌≡◌ {A = ℕ} 45 43 = cc in absurd (omega arith)
front_sign Inverse Inverse w w' g g' e = (refl, cc)

pub front_car : Front GoodCar car
front_car = front_both IsName name_text Known sign front_named front_sign

-- no vehicle behind a space begins with the end of the line
pub apart_spaced : Apart GoodCar spaced 10
apart_spaced v w y g e = let z : ◌≡◌ {A = ℕ} 32 10 = cc in omega arith

pub front_spaced : Front GoodCar spaced
front_spaced v v' w w' g g' e = front_car v v' w w' g g' (cc e)

pub front_others : (m : ℕ) → Front (Few m) others
front_others m = front_many GoodCar spaced 10 front_spaced apart_spaced (λ n. n ≤ m)

cars_push : (vs : List Vehicle) (v : Vehicle) → cars (vs ++ v ∷ []) ≡ cars vs ++ car_of v ∷ []
cars_push [] v = refl
cars_push (x ∷ vs) v = ap (λ z. car_of x ∷ z) (cars_push vs v)

pub length-cars : (vs : List Vehicle) → length (cars vs) ≡ length vs
length-cars [] = refl
length-cars (v ∷ vs) = ap suc (length-cars vs)

-- the byte with which a line goes on behind n vehicles
abbrev pub Next : ℕ → ℕ → Type 0
Next n b = (b ≡ 10) ⊎ ((n < 31) × (b ≡ 32))

pub first_next : (n : ℕ) → First (Many GoodCar spaced 10 (λ k. n + k ≤ 31)) others (Next n)
first_next n [] g = (10, [], inl refl, refl)
first_next n (v ∷ vs) g = (32, car v ++ others vs, inr (omega (arith, g.0), refl), ap (λ z. 32 ∷ z) (append_assoc (car v) (flat_map spaced vs) (10 ∷ [])))
