use Rattle.std.proofs.Common.{◌≡◌, ◌+◌, ◌-◌, ◌*◌, ◌≤◌, length}
use Rattle.std.specs.Str.{bytes_eq}
use Rattle.directory.specs.Part.{thinned}
use Rattle.directory.proofs.leading_end.same_rows.Given as goal

abbrev pub invariant-loop : goal.invariant-loop
invariant-loop l =
    (bytes_eq (thinned l.row.ahead l.row.behind l.count l.fn.left) (thinned l.row.ahead l.row.behind l.count l.fn.right)
    ≡ bytes_eq (thinned l.row.ahead l.row.behind (l.count - l.counter) l.left) (thinned l.row.ahead l.row.behind (l.count - l.counter) l.right))
    × ((l.row.ahead + 1 + l.row.behind) * (l.count - l.counter) ≤ length l.left)
    × ((l.row.ahead + 1 + l.row.behind) * (l.count - l.counter) ≤ length l.right)
