-- Two consists of three vehicles each, and runs of calls on a train of both.
use Rattle.std.specs.Prelude.{ℕ, ◌+◌, cond, List, [], ◌∷◌, ◌++◌, Some, None}
use Rattle.train.specs.declared.identity.Identity.{Identity}
use Rattle.train.specs.declared.name.Name.{Name}
use Rattle.train.specs.declared.entries.Coupled.{Coupled}
use Rattle.train.specs.declared.entries.Vehicle.{Vehicle}
use Rattle.train.specs.declared.facing.Facing.TheVariants.{Direct, Inverse}
use Rattle.train.specs.Identities.{same_identity}
use Rattle.train.specs.Turning.{turned_list, turned_coupled, coupled}
use Rattle.fleet.specs.Fleets.{Consist, Meaning}
use Rattle.bench.specs.Calls.{Call}
use Rattle.bench.specs.Calls.Call.{inaugurate, claim, confirm}
use Rattle.directory.specs.Law.{Side}

-- 3026cede-c9e8-11e3-9d46-1a514932ac01
abbrev pub id_a : Identity
id_a = record { bytes = 0x30 ∷ 0x26 ∷ 0xce ∷ 0xde ∷ 0xc9 ∷ 0xe8 ∷ 0x11 ∷ 0xe3 ∷ 0x9d ∷ 0x46 ∷ 0x1a ∷ 0x51 ∷ 0x49 ∷ 0x32 ∷ 0xac ∷ 0x01 ∷ [] }

-- 6a4a96fe-c9e8-11e3-9d46-1a514932ac01
abbrev pub id_b : Identity
id_b = record { bytes = 0x6a ∷ 0x4a ∷ 0x96 ∷ 0xfe ∷ 0xc9 ∷ 0xe8 ∷ 0x11 ∷ 0xe3 ∷ 0x9d ∷ 0x46 ∷ 0x1a ∷ 0x51 ∷ 0x49 ∷ 0x32 ∷ 0xac ∷ 0x01 ∷ [] }

-- UIC50808943 and four digits
abbrev pub uic : ℕ → ℕ → ℕ → ℕ → Name
uic w x y z = record { bytes = 85 ∷ 73 ∷ 67 ∷ 53 ∷ 48 ∷ 56 ∷ 48 ∷ 56 ∷ 57 ∷ 52 ∷ 51 ∷ (48 + w) ∷ (48 + x) ∷ (48 + y) ∷ (48 + z) ∷ 0 ∷ [] }

-- WAGON1
abbrev pub wagon : Name
wagon = record { bytes = 87 ∷ 65 ∷ 71 ∷ 79 ∷ 78 ∷ 49 ∷ 0 ∷ 0 ∷ 0 ∷ 0 ∷ 0 ∷ 0 ∷ 0 ∷ 0 ∷ 0 ∷ 0 ∷ [] }

abbrev pub a1 : Name
a1 = uic 5 0 3 8

abbrev pub a2 : Name
a2 = uic 5 0 2 0

abbrev pub a3 : Name
a3 = uic 5 0 1 2

abbrev pub b1 : Name
b1 = uic 6 0 3 6

abbrev pub b2 : Name
b2 = uic 6 0 2 8

abbrev pub b3 : Name
b3 = uic 6 0 1 0

abbrev pub direct : Name → Vehicle
direct n = record { name = n; facing = Direct }

abbrev pub consist_a : Consist
consist_a = record { counter = 7; vehicles = direct a1 ∷ direct a2 ∷ direct a3 ∷ [] }

abbrev pub consist_b : Consist
consist_b = record { counter = 9; vehicles = direct b1 ∷ direct b2 ∷ direct b3 ∷ [] }

abbrev pub fleet : Meaning
fleet x = cond (same_identity x id_a) (Some consist_a) (cond (same_identity x id_b) (Some consist_b) None)

abbrev pub formation : List Coupled
formation = coupled id_a Inverse ∷ coupled id_b Direct ∷ []

-- vehicle 3 of B is claimed, in direction 2
abbrev pub led : List Call
led = inaugurate 1 formation ∷ claim id_b 3 2 ∷ []

-- the same claim, on the turned formation
abbrev pub led_turned : List Call
led_turned = inaugurate 1 (turned_list turned_coupled formation) ∷ claim id_b 3 2 ∷ []

-- then WAGON1 is confirmed fourth, or third
abbrev pub fourth : List Call
fourth = led ++ confirm (b3 ∷ b2 ∷ b1 ∷ wagon ∷ a1 ∷ a2 ∷ a3 ∷ []) ∷ []

abbrev pub third : List Call
third = led ++ confirm (b3 ∷ b2 ∷ wagon ∷ b1 ∷ a1 ∷ a2 ∷ a3 ∷ []) ∷ []

-- A is claimed as well
abbrev pub both : List Call
both = led ++ claim id_a 1 1 ∷ []

-- a claim of the fourth of B's three vehicles
abbrev pub beyond : List Call
beyond = inaugurate 1 formation ∷ claim id_b 4 2 ∷ []

-- a run composed over the fleet, into so many bytes
abbrev pub side : List Call → ℕ → Side
side run room = record { run = run; fleet = fleet; room = room }
