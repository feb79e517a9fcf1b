use Rattle.std.proofs.Common.{◌≡◌, take, drop}
use Rattle.train.specs.declared.refusal.Reason.TheVariants.{SharedName}
use Rattle.train.specs.Refusals.{each, each_behind}
use Rattle.directory.specs.Composing.{fresh_name}
use Rattle.directory.proofs.orders.names_apart.Given as goal

abbrev pub invariant-loop-i : goal.invariant-loop-i
invariant-loop-i l = each fresh_name SharedName l.train ≡ each_behind fresh_name SharedName (take l.i l.train) (drop l.i l.train)
