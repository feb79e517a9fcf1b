use Rattle.std.proofs.Common.{◌+◌, get_or, sym, subst}
use Rattle.directory.specs.Cars.{no_car}
use Rattle.directory.specs.Rows.{vehicle_row_of}
use Rattle.directory.proofs.Runs.{Seating, seating_more}
use Rattle.directory.proofs.tables.vehicle_rows.Goals as goal

pub loop-car-preserved : goal.loop-car-preserved
loop-car-preserved c =
    subst (λ table. Seating (vehicle_row_of c.args.train.now) c.args.cars.now (c.loop-car.car-index + 1) c.run_of-run.result (get_or c.args.cars.now c.loop-car.car-index no_car).consist.bytes table)
    (sym c.push.ensures.items)
    (seating_more (vehicle_row_of c.args.train.now) c.args.cars.now c.loop-car.invariant no_car c.run_of-run.result _ c.loop-car-test.true
    c.run_of-run.ensures.value c.run_of-run.ensures.few c.vehicle_row.ensures)
