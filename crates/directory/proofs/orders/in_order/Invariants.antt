use Rattle.std.proofs.Common.{◌≡◌, ◌≤◌, length, drop}
use Rattle.directory.specs.Operation.{names}
use Rattle.directory.specs.Composing.{same_names, struck}
use Rattle.directory.proofs.orders.in_order.Given as goal

abbrev pub invariant-loop-name : goal.invariant-loop-name
invariant-loop-name l =
    (l.at ≤ length l.head)
    × (same_names (struck (names l.head) l.confirmed) (names l.head) ≡ same_names (struck (names l.head) (drop l.name-index l.confirmed)) (drop l.at (names l.head)))
