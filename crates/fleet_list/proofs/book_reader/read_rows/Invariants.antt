use Rattle.std.proofs.Common.{◌≡◌, map, take}
use Rattle.train.specs.Closures.{Gives}
use Rattle.fleet_list.proofs.book_reader.read_rows.Given as goal

abbrev pub invariant-loop-i : goal.invariant-loop-i
invariant-loop-i g l = (of : _ → _) → Gives g.F.Fn l.form of → take l.i l.table ≡ map of (take l.i l.rows)
