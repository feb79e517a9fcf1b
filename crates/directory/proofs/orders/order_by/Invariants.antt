use Rattle.std.proofs.Common.{◌≡◌, map, take}
use Rattle.directory.specs.Operation.{pick}
use Rattle.directory.proofs.orders.order_by.Given as goal

abbrev pub invariant-loop-name : goal.invariant-loop-name
invariant-loop-name l = l.cars.items ≡ map (pick l.head) (take l.name-index l.confirmed)
