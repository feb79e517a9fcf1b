use Rattle.std.proofs.Common.{◌≡◌, map, take}
use Rattle.coach_order.specs.Reads.{row_vehicle}
use Rattle.coach_order.proofs.section.vehicles_of.Given as goal

abbrev pub invariant-loop-row : goal.invariant-loop-row
invariant-loop-row l = l.vehicles.items ≡ map row_vehicle (take l.row-index l.rows)
