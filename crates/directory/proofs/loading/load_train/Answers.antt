use Rattle.std.proofs.Common.{[], length, ap, arith}
use Rattle.train.specs.declared.facing.Facing.TheVariants.{NotKnown}
use Rattle.bench.specs.Shown.{shown}
use Rattle.directory.specs.Cars.{train}
use Rattle.directory.proofs.Loads.{train_room}
use Rattle.directory.proofs.loading.load_train.Goals as goal

pub load_entry-requires : goal.load_entry-requires
load_entry-requires g c =
    let m = g.F.Meant.meaning c.args.fleet.now in
    let claims = (shown c.args.bench.now).claims in
    let room = train_room m claims c.formation-formation.result.now c.loop-entry.entry-index (record { identity = record { bytes = [] }; facing = NotKnown }) c.loop-entry-test.true in
    let whole = ap (λ es. length (train m claims es)) c.formation-formation.ensures.value in
    let long = ap length c.loop-entry.invariant in
    omega (arith, room, whole, long, c.requires)
