use Rattle.std.proofs.Common.{◌≡◌, map, length, take}
use Rattle.train.specs.Closures.{Gives}
use Rattle.linkage.proofs.entries.read.Given as goal

abbrev pub invariant-loop-row : goal.invariant-loop-row
invariant-loop-row g l =
    (length l.list.items ≡ l.row-index)
    × ((of : _ → _) → Gives g.F.Fn l.form of → l.list.items ≡ map of (take l.row-index l.rows))
