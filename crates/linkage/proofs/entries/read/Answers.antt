use Rattle.std.proofs.Common.{◌++◌, ◌∷◌, [], map, ap, ◌∙◌, ap₂, refl, sym, arith}
use Rattle.std.proofs.lemmas.Fn.{says_at}
use Rattle.std.proofs.lemmas.List.{map_more, take_all}
use Rattle.linkage.proofs.entries.read.Goals as goal

pub loop-row-preserved : goal.loop-row-preserved
loop-row-preserved g c = (
  omega (arith, c.push.ensures.len, c.loop-row.invariant.0),
  λ of reads.
      c.push.ensures.items
      ∙ ap₂ (λ xs y. xs ++ y ∷ []) (c.loop-row.invariant.1 of reads) (reads _ _ (says_at g.F.Fn c.form.ensures refl) ∙ ap of c.row-item.is)
      ∙ sym (map_more of c.args.rows.now c.loop-row.row-index _ c.loop-row-test.true),
)

pub returns : goal.returns
returns g c of reads = c.loop-row.invariant.1 of reads ∙ ap (map of) (take_all c.loop-row.row-index c.args.rows.now (omega (arith, c.loop-row-test.false)))
