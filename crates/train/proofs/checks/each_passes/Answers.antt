use Rattle.std.proofs.Common.{Some, refl, sym, ap, ◌∙◌}
use Rattle.std.proofs.lemmas.Fn.{says_at}
use Rattle.train.specs.Refusals.{breach, alone}
use Rattle.train.proofs.Rules.{each_past, each_here}
use Rattle.train.proofs.checks.each_passes.Goals as goal

pub returns-then-not-passes : goal.returns-then-not-passes
returns-then-not-passes g c test tests =
    ap Some c.at.ensures
    ∙ sym (ap (breach c.args.part) (c.loop-i.invariant test tests)
    ∙ each_here (alone test) c.args.reason c.args.entries.now c.loop-i.i c.args.part c.index-entries-i.result _ c.index-entries-i.is c.loop-i-test.true
    (sym (tests _ _ (says_at g.F.Fn c.if-not-passes.ensures refl))))

pub loop-i-preserved : goal.loop-i-preserved
loop-i-preserved g c test tests =
    c.loop-i.invariant test tests
    ∙ each_past (alone test) c.args.reason c.args.entries.now c.loop-i.i c.index-entries-i.result _ c.index-entries-i.is c.loop-i-test.true
    (sym (tests _ _ (says_at g.F.Fn c.if-not-passes.ensures refl)))
