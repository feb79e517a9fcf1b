use Rattle.std.proofs.Common.{drop}
use Rattle.fleet_list.proofs.Loops.{Writing}
use Rattle.fleet_list.proofs.forms.put_each.Given as goal

abbrev pub invariant-loop-value : goal.invariant-loop-value
invariant-loop-value g l = Writing g.F.Form.bytes l.values (drop l.value-index l.values) l.at l.initial.out l.out
