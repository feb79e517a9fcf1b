use Rattle.std.proofs.Common.{refl}
use Rattle.fleet_list.proofs.Loops.{writing_next, writing_more}
use Rattle.fleet_list.proofs.forms.put_each.Goals as goal

pub loop-value-preserved : goal.loop-value-preserved
loop-value-preserved g c = writing_more g.F.Form.bytes (writing_next g.F.Form.bytes c.args.values.now c.value-item.is c.loop-value-test.true c.loop-value.invariant) c.put-at.ensures refl
