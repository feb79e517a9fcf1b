use Rattle.std.proofs.Common.{◌≡◌, take, drop}
use Rattle.std.specs.Str.{bytes_eq}
use Rattle.train.specs.declared.refusal.Reason.TheVariants.{Repeated}
use Rattle.train.specs.Refusals.{each, each_behind, fresh, by}
use Rattle.train.proofs.checks.labels_apart.Given as goal

abbrev pub invariant-loop-i : goal.invariant-loop-i
invariant-loop-i g l =
    each (fresh (by bytes_eq g.T.Labelled.labels)) Repeated l.entries
    ≡ each_behind (fresh (by bytes_eq g.T.Labelled.labels)) Repeated (take l.i l.entries) (drop l.i l.entries)
