use Rattle.std.proofs.Common.{◌≡◌, Bool, take, drop}
use Rattle.train.specs.Refusals.{each, each_behind, alone}
use Rattle.train.specs.Closures.{Gives}
use Rattle.train.proofs.checks.each_passes.Given as goal

abbrev pub invariant-loop-i : goal.invariant-loop-i
invariant-loop-i g l =
    (test : _ → Bool) → Gives g.F.Fn l.passes test
    → each (alone test) l.reason l.entries ≡ each_behind (alone test) l.reason (take l.i l.entries) (drop l.i l.entries)
