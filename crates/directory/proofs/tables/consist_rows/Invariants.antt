use Rattle.directory.specs.Rows.{consist_row_of}
use Rattle.directory.proofs.Runs.{Collecting}
use Rattle.directory.proofs.tables.consist_rows.Given as goal

abbrev pub invariant-loop-car : goal.invariant-loop-car
invariant-loop-car l = Collecting (consist_row_of l.formation) l.cars l.car-index l.prior l.table.items
