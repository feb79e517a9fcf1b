use Rattle.std.proofs.Common.{◌≡◌, ◌++◌, map, take, drop}
use Rattle.train.proofs.turning.turn_all.Given as goal

abbrev pub invariant-loop-x : goal.invariant-loop-x
invariant-loop-x g l =
    l.entries ≡ map g.T.Turn.turned (take l.x-index l.initial.entries) ++ drop l.x-index l.initial.entries
