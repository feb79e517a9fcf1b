-- All consists of a fleet coupled in their order, each direct.
use Rattle.std.specs.Prelude.{List, [], map, None, Option}
use Rattle.train.specs.declared.entries.Coupled.{Coupled}
use Rattle.train.specs.declared.entries.Vehicle.{Vehicle}
use Rattle.train.specs.declared.facing.Facing.TheVariants.{Direct}
use Rattle.train.specs.declared.refusal.Part.TheVariants.{Bench, Composing}
use Rattle.train.specs.declared.refusal.Refusal.{Refusal}
use Rattle.train.specs.Refusals.{or_else, refusal}
use Rattle.fleet.specs.Books.{Item, meaning_of}
use Rattle.bench.specs.Calls.Call.{inaugurate}
use Rattle.bench.specs.Facts.{Facts, nothing, checks}
use Rattle.directory.specs.declared.cars.Car.{Car}
use Rattle.directory.specs.Composing.{checks as composing_checks}

abbrev pub direct : Item → Coupled
direct i = record { identity = i.identity; facing = Direct }

abbrev pub formation_of : List Item → List Coupled
formation_of = map direct

-- what stands then: ETB counter 1, the formation, no claim, no confirmed list
abbrev pub facts_of : List Item → Facts
facts_of is = record { etb = 1; formation = formation_of is; claims = λ _. None; confirmed = [] }

-- why inaugurate refuses the formation, or why composing it over the fleet, into 4303 bytes, is refused
abbrev pub inaugurated : List Item → Option Refusal
inaugurated is = refusal Bench (checks nothing (inaugurate 1 (formation_of is)))

abbrev pub composed : List Item → Option Refusal
composed is = refusal Composing (composing_checks (facts_of is) (meaning_of is) 4303)

-- the first of these that refuses
abbrev pub uncoupled : List Item → Option Refusal
uncoupled is = or_else (inaugurated is) (composed is)

-- a vehicle as the composition has it
abbrev pub vehicle_of : Car → Vehicle
vehicle_of c = record { name = c.name; facing = c.facing }
