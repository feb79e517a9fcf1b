use Rattle.std.proofs.Common.{ap, ◌∙◌}
use Rattle.train.specs.Refusals.{breach}
use Rattle.train.specs.declared.refusal.Part.TheVariants.{Text}
use Rattle.fleet_list.proofs.Checked.{heads_rise}
use Rattle.fleet_list.proofs.checks.identities_rise.Goals as goal

pub returns : goal.returns
returns c = c.identities_rise.ensures ∙ ap (breach Text) (heads_rise c.args.heads.now)
