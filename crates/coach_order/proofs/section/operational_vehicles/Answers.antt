use Rattle.std.proofs.Common.{length, drop, get_or, ap, ◌∙◌, arith}
use Rattle.fleet.specs.Entries.{length-rows}
use Rattle.directory.specs.Part.{vehicles}
use Rattle.coach_order.proofs.section.operational_vehicles.Goals as goal

pub vehicles_of-requires : goal.vehicles_of-requires
vehicles_of-requires c =
    let vs = vehicles c.args.composition.now in
    let e = ap length c.vehicle_rows.ensures ∙ length-rows 24 (get_or vs 0 0) (drop 1 vs) in
    omega arith
