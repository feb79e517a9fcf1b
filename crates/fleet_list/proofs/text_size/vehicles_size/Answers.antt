use Rattle.std.proofs.Common.{◌≡◌, ◌^◌, ◌<◌, length, rules, arith}
use Rattle.std.specs.List.{sum_by}
use Rattle.fleet_list.specs.Texts.{vehicle_text}
use Rattle.fleet_list.proofs.Sizes.{flat_long}
use Rattle.fleet_list.proofs.text_size.vehicles_size.Goals as goal

pub sum-requires-clause-fits : goal.sum-requires-clause-fits
sum-requires-clause-fits c =
    let s : sum_by (λ v. length (vehicle_text v)) c.args.vehicles.now < 2 ^ 64 = omega (arith, flat_long vehicle_text c.args.vehicles.now, c.requires) in
    search rules

pub returns : goal.returns
returns c =
    let s : c.sum.result ≡ sum_by (λ v. length (vehicle_text v)) c.args.vehicles.now = search rules in
    omega (arith, flat_long vehicle_text c.args.vehicles.now)
