use Rattle.std.proofs.Common.{sym, ap₂, ◌∙◌}
use Rattle.train.specs.Identities.{ascending, rises}
use Rattle.train.specs.declared.refusal.Reason.TheVariants.{IdentityOrder}
use Rattle.train.proofs.Rules.{each_past, last_more}
use Rattle.train.proofs.checks.identities_rise.Goals as goal

pub loop-i-preserved : goal.loop-i-preserved
loop-i-preserved g c = (
  c.loop-i.invariant.0
      ∙ each_past (ascending g.T.Labelled.labels) IdentityOrder c.args.entries.now c.loop-i.i c.index-entries-i.result _ c.index-entries-i.is c.loop-i-test.true
      (sym (c.if-not-is_rise.ensures ∙ ap₂ rises c.loop-i.invariant.1 c.label.ensures)),
  c.label-prior.ensures ∙ last_more g.T.Labelled.labels c.args.entries.now c.loop-i.i c.index-entries-i.result _ c.index-entries-i.is c.loop-i-test.true,
)
