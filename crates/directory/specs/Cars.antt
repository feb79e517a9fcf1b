-- The vehicles of a train, along the formation.
use Rattle.std.specs.Prelude.{ℕ, ◌+◌, cond, List, [], ◌∷◌, Some, None, Option, ◌==◌}
use Rattle.std.specs.List.{flat_map}
use Rattle.train.specs.declared.identity.Identity.{Identity}
use Rattle.train.specs.declared.entries.Coupled.{Coupled}
use Rattle.train.specs.declared.entries.Vehicle.{Vehicle}
use Rattle.train.specs.declared.facing.Facing.{Facing}
use Rattle.train.specs.declared.facing.Facing.TheVariants.{NotKnown, Direct, Inverse}
use Rattle.train.specs.Facings.{opposite}
use Rattle.train.specs.Turning.{turned_list}
use Rattle.fleet.specs.Fleets.{Meaning, vehicles_of}
use Rattle.bench.specs.declared.claims.Claim.{Claim}
use Rattle.directory.specs.declared.cars.Car.{Car}

abbrev pub turned_car : Car → Car
turned_car c = record { consist = c.consist; stance = opposite c.stance; name = c.name; facing = opposite c.facing; lead = c.lead }

-- a list as it is met by one who comes along it, or against it
abbrev pub met : {A : Type 0} → (A → A) → Facing → List A → List A
met turn NotKnown xs = xs
met turn Direct xs = xs
met turn Inverse xs = turned_list turn xs

-- what the claim on a consist says of its vehicle k: the claimed direction at the claimed number
abbrev pub mark : Option Claim → ℕ → Facing
mark None k = NotKnown
mark (Some c) k = cond (c.vehicle == k) c.direction NotKnown

-- a consist's vehicles from number k on
abbrev pub cars : Identity → Option Claim → ℕ → List Vehicle → List Car
cars x claim k [] = []
cars x claim k (v ∷ vs) = record { consist = x; stance = Direct; name = v.name; facing = v.facing; lead = mark claim k } ∷ cars x claim (k + 1) vs

-- the vehicles of one entry of the formation, along the train
abbrev pub stretch : Meaning → (Identity → Option Claim) → Coupled → List Car
stretch m claims e = met turned_car e.facing (cars e.identity (claims e.identity) 1 (vehicles_of (m e.identity)))

-- the train order: entry after entry
abbrev pub train : Meaning → (Identity → Option Claim) → List Coupled → List Car
train m claims = flat_map (stretch m claims)

-- what stands for a car past the end of a list
abbrev pub no_car : Car
no_car = record { consist = record { bytes = [] }; stance = NotKnown; name = record { bytes = [] }; facing = NotKnown; lead = NotKnown }
