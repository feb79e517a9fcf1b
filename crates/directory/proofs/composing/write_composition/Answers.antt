use Rattle.std.proofs.Common.{length, Some, sym, ap, ◌∙◌}
use Rattle.bench.specs.Shown.{shown}
use Rattle.directory.proofs.Behind.{same_text}
use Rattle.directory.proofs.Composed.{same_whole, same_size, too_short, long_enough, lent_text}
use Rattle.directory.proofs.composing.write_composition.Goals as goal

pub returns-then-out-need-clause-answer : goal.returns-then-out-need-clause-answer
returns-then-out-need-clause-answer g c =
    let f = shown c.args.bench.now in
    let m = g.F.Meant.meaning c.args.fleet.now in
    let e = same_size f m c.formation-formation.result.now c.args.cars.now c.args.train.now _ _ _ c.formation-formation.ensures.value c.requires.cars
    (sym (c.len.ensures.value ∙ ap length c.train_rows.ensures)) (sym (c.len-2.ensures.value ∙ ap length c.consist_rows.ensures)) (sym (c.len-3.ensures.value ∙ ap length c.vehicle_rows.ensures)) in
    ap Some c.at.ensures ∙ sym (too_short f m (length c.args.out.now) _ e c.if-out-need.true)

pub returns-clause-answer : goal.returns-clause-answer
returns-clause-answer g c =
    let f = shown c.args.bench.now in
    let m = g.F.Meant.meaning c.args.fleet.now in
    let e = same_size f m c.formation-formation.result.now c.args.cars.now c.args.train.now _ _ _ c.formation-formation.ensures.value c.requires.cars
    (sym (c.len.ensures.value ∙ ap length c.train_rows.ensures)) (sym (c.len-2.ensures.value ∙ ap length c.consist_rows.ensures)) (sym (c.len-3.ensures.value ∙ ap length c.vehicle_rows.ensures)) in
    sym (long_enough f m (length c.args.out.now) _ e c.if-out-need.false)

pub returns-clause-wrote : goal.returns-clause-wrote
returns-clause-wrote g c =
    let f = shown c.args.bench.now in
    let m = g.F.Meant.meaning c.args.fleet.now in
    same_text (lent_text _ (c.as_slice.ensures.value ∙ c.train_rows.ensures) (c.as_slice-2.ensures.value ∙ c.consist_rows.ensures) (c.as_slice-3.ensures.value ∙ c.vehicle_rows.ensures)
    ∙ same_whole f m c.head_of-head.result c.formation-formation.result.now c.args.cars.now c.args.train.now c.head_of-head.ensures c.formation-formation.ensures.value c.requires.cars c.requires.train)
    c.write_whole.ensures.wrote
