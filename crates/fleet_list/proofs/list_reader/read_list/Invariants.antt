use Rattle.std.proofs.Common.{length}
use Rattle.fleet_list.proofs.Rows.{Passed}
use Rattle.fleet_list.proofs.list_reader.read_list.Given as goal

abbrev pub invariant-loop-cursor : goal.invariant-loop-cursor
invariant-loop-cursor l = Passed l.text l.cursor l.tables.heads l.tables.vehicles l.tables.lines l.tables.total

abbrev pub decreases-loop-cursor : goal.decreases-loop-cursor
decreases-loop-cursor l = length l.cursor.text.now
