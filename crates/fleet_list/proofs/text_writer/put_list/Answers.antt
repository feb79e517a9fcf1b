use Rattle.std.proofs.Common.{refl}
use Rattle.fleet_list.specs.Lists.{line_text}
use Rattle.fleet_list.proofs.Loops.{writing_at, writing_more}
use Rattle.fleet_list.proofs.text_writer.put_list.Goals as goal

pub loop-consist-preserved : goal.loop-consist-preserved
loop-consist-preserved c = (tt, tt, writing_more line_text (writing_at line_text c.in-Some.ensures.steps c.loop-consist.invariant.2) c.put_line-at.ensures refl)
