-- The operational order: from the head of the train, with a confirmed list and its inserted vehicles.
use Rattle.std.specs.Prelude.{cond, List, [], ◌∷◌, map, Some, None, Option}
use Rattle.std.specs.List.{flat_map}
use Rattle.train.specs.declared.identity.Identity.{Identity}
use Rattle.train.specs.declared.name.Name.{Name}
use Rattle.train.specs.declared.entries.Coupled.{Coupled}
use Rattle.train.specs.declared.facing.Facing.{Facing}
use Rattle.train.specs.declared.facing.Facing.TheVariants.{NotKnown, Direct}
use Rattle.train.specs.Facings.{composed}
use Rattle.train.specs.Identities.{same_name}
use Rattle.train.specs.Octets.{zeros}
use Rattle.fleet.specs.Fleets.{Meaning}
use Rattle.bench.specs.declared.claims.Claim.{Claim}
use Rattle.bench.specs.Facts.{Facts}
use Rattle.directory.specs.declared.cars.Car.{Car}
use Rattle.directory.specs.Cars.{met, train, turned_car}

-- a claim that stands, with its entry of the formation
pub record Lead : Type 0 where
  pub entry : Coupled
  pub at : Claim

abbrev pub lead_of : Coupled → Option Claim → List Lead
lead_of e None = []
lead_of e (Some c) = record { entry = e; at = c } ∷ []

-- the claims that stand, along the formation
abbrev pub leads : (Identity → Option Claim) → List Coupled → List Lead
leads claims = flat_map (λ e. lead_of e (claims e.identity))

-- the claim's direction composed with its consist's facing in the formation; direct without a claim
abbrev pub orient : List Lead → Facing
orient [] = Direct
orient (l ∷ ls) = composed l.at.direction l.entry.facing

abbrev pub orientation : Facts → Facing
orientation f = orient (leads f.claims f.formation)

-- the train's vehicles from the head
abbrev pub from_head : Facts → Meaning → List Car
from_head f m = met turned_car (orientation f) (train m f.claims f.formation)

abbrev pub names : List Car → List Name
names = map (λ c. c.name)

-- an inserted vehicle: no consist of the train, nothing known of its facing
abbrev pub strange : Name → Car
strange n = record { consist = record { bytes = zeros }; stance = NotKnown; name = n; facing = NotKnown; lead = NotKnown }

-- the vehicle of this name or, if none has it, an inserted one
abbrev pub pick : List Car → Name → Car
pick [] n = strange n
pick (c ∷ cs) n = cond (same_name n c.name) c (pick cs n)

-- a confirmed list replaces the vehicle order
abbrev pub ordered : List Name → List Car → List Car
ordered [] cs = cs
ordered (n ∷ ns) cs = map (pick cs) (n ∷ ns)

abbrev pub operational : Facts → Meaning → List Car
operational f m = ordered f.confirmed (from_head f m)
