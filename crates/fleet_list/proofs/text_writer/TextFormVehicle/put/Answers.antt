use Rattle.std.proofs.Common.{◌∷◌, ◌++◌, sym, refl, ap, arith}
use Rattle.train.specs.Names.{text_of}
use Rattle.fleet_list.specs.Texts.{quoted}
use Rattle.fleet_list.proofs.Behind.{lend, then_byte, written_none, same_text}
use Rattle.fleet_list.proofs.Sizes.{vehicle_long}
use Rattle.fleet_list.proofs.text_writer.TextFormVehicle.put.Goals as goal

pub returns : goal.returns
returns c =
    let a = then_byte (written_none c.args.out.now) 32 (omega (arith, vehicle_long c.args.vehicle.now, c.requires)) in
    let b = lend a c.put_name-at.ensures refl in
    same_text (ap (λ z. 32 ∷ (quoted (text_of c.args.vehicle.now.name.bytes) ++ z)) (sym c.sign_of.ensures))
    (then_byte b c.sign_of.result (omega (arith, vehicle_long c.args.vehicle.now, c.requires, c.put_name-at.ensures.long)))
