-- The order from the head, consist by consist, in the words of the rule.
use Rattle.std.specs.Prelude.{ℕ, ◌+◌, List, [], ◌∷◌, reverse, Option}
use Rattle.std.specs.List.{flat_map}
use Rattle.train.specs.declared.identity.Identity.{Identity}
use Rattle.train.specs.declared.entries.Coupled.{Coupled}
use Rattle.train.specs.declared.entries.Vehicle.{Vehicle}
use Rattle.train.specs.declared.facing.Facing.{Facing}
use Rattle.train.specs.declared.facing.Facing.TheVariants.{NotKnown, Direct, Inverse}
use Rattle.train.specs.Facings.{composed}
use Rattle.fleet.specs.Fleets.{Meaning, vehicles_of}
use Rattle.bench.specs.declared.claims.Claim.{Claim}
use Rattle.bench.specs.Facts.{Facts}
use Rattle.directory.specs.declared.cars.Car.{Car}
use Rattle.directory.specs.Cars.{mark}
use Rattle.directory.specs.Operation.{orientation}

-- 2 reverses, 1 keeps
abbrev pub along : {A : Type 0} → Facing → List A → List A
along NotKnown xs = xs
along Direct xs = xs
along Inverse xs = reverse xs

-- the vehicles of a consist of this operational facing; each one's facing composes with it
abbrev pub coaches : Identity → Facing → Option Claim → ℕ → List Vehicle → List Car
coaches x s claim k [] = []
coaches x s claim k (v ∷ vs) =
    record { consist = x; stance = s; name = v.name; facing = composed v.facing s; lead = mark claim k } ∷ coaches x s claim (k + 1) vs

-- the formation facing composed with the train orientation
abbrev pub operational_facing : Facing → Coupled → Facing
operational_facing o e = composed e.facing o

abbrev pub block : Meaning → (Identity → Option Claim) → Facing → Coupled → List Car
block m claims o e =
    along (operational_facing o e) (coaches e.identity (operational_facing o e) (claims e.identity) 1 (vehicles_of (m e.identity)))

-- the orientation reverses the formation, the operational facing the vehicles of a consist
abbrev pub told : Facts → Meaning → List Car
told f m = flat_map (block m f.claims (orientation f)) (along (orientation f) f.formation)
