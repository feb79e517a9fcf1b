use Rattle.std.proofs.Common.{refl, arith}
use Rattle.directory.proofs.Behind.{lend, same_text}
use Rattle.directory.proofs.Sections.{rows_more, times_more}
use Rattle.directory.proofs.rows.write_rows.Goals as goal

pub loop-i-preserved : goal.loop-i-preserved
loop-i-preserved g c =
    let size = g.T.Row.size in
    let more = times_more size c.loop-i.i in
    let long = c.write-at.ensures.long in
    let at = c.loop-i.invariant.1 in (
      same_text (rows_more g.T.Row.row c.args.rows.now c.loop-i.i c.index-rows-i.result _ c.index-rows-i.is c.loop-i-test.true)
          (lend c.loop-i.invariant.0 c.write-at.ensures.wrote refl),
      omega arith,
    )
