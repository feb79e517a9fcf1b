use Rattle.std.proofs.Common.{refl}
use Rattle.fleet_list.specs.Parts.{GoodCar, car, car_of, spaced}
use Rattle.fleet_list.proofs.Cursors.{passed_on, behind_byte, byte_missing}
use Rattle.fleet_list.proofs.Four.{some, some_good}
use Rattle.fleet_list.proofs.vehicle_reader.read_other.Goals as goal

pub returns-in_err-expect : goal.returns-in_err-expect
returns-in_err-expect c =
    passed_on c.from_residual.ensures.1 (byte_missing GoodCar spaced car_of 32 some some_good (λ v g. (32, car v, refl, refl)) c.in_err-expect.ensures)

pub returns : goal.returns
returns c = behind_byte GoodCar car GoodCar spaced 32 car_of car_of (λ v g. (v, g, refl)) (λ w x y g _. (w, g, refl)) (λ r g. (g, refl)) c.read_vehicle.result c.in_ok-expect.ensures c.read_vehicle.ensures
