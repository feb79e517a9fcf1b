use Rattle.std.proofs.Common.{◌+◌, ◌<◌, length, sym, ◌∙◌, subst, arith}
use Rattle.fleet.specs.Fleets.{vehicles_of}
use Rattle.directory.proofs.Loads.{Loading, loading_more, loading_room, asked}
use Rattle.directory.proofs.loading.load_consist.Goals as goal

pub push-requires : goal.push-requires
push-requires g c =
    let o = g.F.Meant.meaning c.args.fleet.now c.args.identity.now in
    let few : length c.loop-k.cars.items < 63 =
    loading_room c.args.identity.now c.args.claim (vehicles_of o) c.loop-k.k 63 c.args.cars.now.items c.loop-k.cars.items c.in-Some.vehicle
    c.loop-k.invariant (sym (asked o c.loop-k.k) ∙ sym c.in-Some.ensures) c.requires in
    (omega arith, few)

pub loop-k-preserved : goal.loop-k-preserved
loop-k-preserved g c =
    let o = g.F.Meant.meaning c.args.fleet.now c.args.identity.now in
    subst (λ cars. Loading c.args.identity.now c.args.claim (vehicles_of o) (c.loop-k.k + 1) c.args.cars.now.items cars) (sym c.push.ensures.items)
    (loading_more c.args.identity.now c.args.claim (vehicles_of o) c.loop-k.k c.args.cars.now.items c.loop-k.cars.items c.in-Some.vehicle c.lead_mark.result
    c.loop-k.invariant (sym (asked o c.loop-k.k) ∙ sym c.in-Some.ensures) c.lead_mark.ensures)
