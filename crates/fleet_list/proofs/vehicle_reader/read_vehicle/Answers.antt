use Rattle.std.proofs.Common.{refl}
use Rattle.train.specs.Names.{IsName}
use Rattle.train.specs.declared.facing.Facing.TheVariants.{Direct}
use Rattle.fleet_list.specs.Parts.{name_text, Known, car_of}
use Rattle.fleet_list.specs.Texts.{sign}
use Rattle.fleet_list.proofs.Cursors.{passed_on, both_taken, first_stuck, second_stuck}
use Rattle.fleet_list.proofs.Pads.{front_named}
use Rattle.fleet_list.proofs.vehicle_reader.read_vehicle.Goals as goal

pub returns-in_err-name : goal.returns-in_err-name
returns-in_err-name c =
    passed_on c.from_residual.ensures.1 (first_stuck IsName name_text Known sign car_of Direct refl c.in_err-name.ensures)

pub returns-in_err-facing : goal.returns-in_err-facing
returns-in_err-facing c =
    passed_on c.from_residual-in_err-facing.ensures.1 (second_stuck IsName name_text Known sign car_of front_named c.in_ok-name.ensures c.in_err-facing.ensures)

pub returns : goal.returns
returns c = both_taken IsName name_text Known sign car_of c.in_ok-name.ensures c.in_ok-facing.ensures refl
