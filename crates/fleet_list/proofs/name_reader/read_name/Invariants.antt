use Rattle.std.proofs.Common.{◌<◌}
use Rattle.fleet_list.specs.Cursors.{IsAt}
use Rattle.fleet_list.proofs.Spelled.{Spelled}
use Rattle.fleet_list.proofs.name_reader.read_name.Given as goal

abbrev pub invariant-loop-slot : goal.invariant-loop-slot
invariant-loop-slot l = record { spelled : Spelled l.initial.cursor l.cursor l.letters l.slot-index; onward : 0 < l.slot-index → IsAt 34 l.cursor → ⊥ }
