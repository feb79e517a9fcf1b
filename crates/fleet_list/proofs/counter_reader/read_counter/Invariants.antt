use Rattle.std.proofs.Common.{◌-◌, length}
use Rattle.fleet_list.proofs.Counting.{Counting}
use Rattle.fleet_list.proofs.counter_reader.read_counter.Given as goal

abbrev pub invariant-loop-value : goal.invariant-loop-value
invariant-loop-value l = Counting l.initial.cursor l.cursor l.value

abbrev pub decreases-loop-value : goal.decreases-loop-value
decreases-loop-value l = length l.initial.cursor.text.now - l.cursor.at
