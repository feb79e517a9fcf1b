use Rattle.std.proofs.Common.{◌≡◌, take, drop}
use Rattle.train.specs.declared.refusal.Reason.TheVariants.{IdentityOrder}
use Rattle.train.specs.Identities.{ascending, last_identity}
use Rattle.train.specs.Refusals.{each, each_behind}
use Rattle.train.proofs.checks.identities_rise.Given as goal

abbrev pub invariant-loop-i : goal.invariant-loop-i
invariant-loop-i g l =
    (each (ascending g.T.Labelled.labels) IdentityOrder l.entries ≡ each_behind (ascending g.T.Labelled.labels) IdentityOrder (take l.i l.entries) (drop l.i l.entries))
    × (l.prior ≡ last_identity g.T.Labelled.labels (take l.i l.entries))
