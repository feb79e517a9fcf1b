use Rattle.directory.specs.Rows.{vehicle_row_of}
use Rattle.directory.proofs.Runs.{Seating}
use Rattle.directory.proofs.tables.vehicle_rows.Given as goal

abbrev pub invariant-loop-car : goal.invariant-loop-car
invariant-loop-car l = Seating (vehicle_row_of l.train) l.cars l.car-index l.run l.prior l.table.items
