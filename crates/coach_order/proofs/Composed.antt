-- AllByRecursion consists of a fleet, composed: the vehicles from the head are those of the fleet, one after another.
use Rattle.std.proofs.Common.{◌≡◌, ℕ, ◌+◌, true, List, [], ◌∷◌, ◌++◌, map, Some, None, refl, ap, ◌∙◌, ap₂}
use Rattle.std.specs.List.{AllByRecursion}
use Rattle.std.proofs.lemmas.List.{map-append}
use Rattle.train.specs.declared.entries.Coupled.{Coupled}
use Rattle.train.specs.declared.entries.Vehicle.{Vehicle}
use Rattle.train.specs.declared.identity.Identity.{Identity}
use Rattle.train.specs.Octets.{below}
use Rattle.fleet.specs.Fleets.{Meaning, vehicles_of}
use Rattle.fleet.specs.Books.{Item, meaning_of, vehicles_in, Rising}
use Rattle.fleet.specs.Halves.{same_self, below_apart}
use Rattle.directory.specs.Cars.{met, turned_car, cars, stretch, train}
use Rattle.directory.specs.Operation.{Lead, leads, orient, operational}
use Rattle.coach_order.specs.Orders.{direct, formation_of, facts_of, vehicle_of}

-- a fleet in rising order means each of its consists at its identity
here : (i : Item) (is : List Item) → meaning_of (i ∷ is) i.identity ≡ Some i.consist
here i is = let e = same_self i.identity.bytes in rw e

later : (i : Item) (is js : List Item) → AllByRecursion (λ j. below i.identity.bytes j.identity.bytes ≡ true) js → AllByRecursion (λ j. meaning_of is j.identity ≡ Some j.consist) js
    → AllByRecursion (λ j. meaning_of (i ∷ is) j.identity ≡ Some j.consist) js
later i is [] h g = tt
later i is (j ∷ js) h g =
    let e = below_apart i.identity.bytes j.identity.bytes h.0 in
    let one : meaning_of (i ∷ is) j.identity ≡ Some j.consist = rw e g.0 in
    (one, later i is js h.1 g.1)

pub meant_each : (is : List Item) → Rising is → AllByRecursion (λ i. meaning_of is i.identity ≡ Some i.consist) is
meant_each [] p = tt
meant_each (i ∷ is) p = (here i is, later i is is p.0 (meant_each is p.1))

-- nothing is claimed, so the train is met from the front
pub no_leads : (es : List Coupled) → leads (λ _. None) es ≡ []
no_leads [] = refl
no_leads (e ∷ es) = no_leads es

pub head_first : (is : List Item) → operational (facts_of is) (meaning_of is) ≡ train (meaning_of is) (λ _. None) (formation_of is)
head_first is = ap (λ (ls : List Lead). met turned_car (orient ls) (train (meaning_of is) (λ _. None) (formation_of is))) (no_leads (formation_of is))

cars_told : (x : Identity) (k : ℕ) (vs : List Vehicle) → map vehicle_of (cars x None k vs) ≡ vs
cars_told x k [] = refl
cars_told x k (v ∷ vs) = ap (λ (ws : List Vehicle). v ∷ ws) (cars_told x (k + 1) vs)

pub train_told : (m : Meaning) (is : List Item) → AllByRecursion (λ i. m i.identity ≡ Some i.consist) is → map vehicle_of (train m (λ _. None) (formation_of is)) ≡ vehicles_in is
train_told m [] h = refl
train_told m (i ∷ is) h =
    map-append vehicle_of (stretch m (λ _. None) (direct i)) (train m (λ _. None) (formation_of is))
    ∙ ap₂ (λ (a b : List Vehicle). a ++ b) (cars_told i.identity 1 (vehicles_of (m i.identity)) ∙ ap vehicles_of h.0) (train_told m is h.1)

pub order_told : (is : List Item) → Rising is → map vehicle_of (operational (facts_of is) (meaning_of is)) ≡ vehicles_in is
order_told is p = ap (map vehicle_of) (head_first is) ∙ train_told (meaning_of is) is (meant_each is p)
