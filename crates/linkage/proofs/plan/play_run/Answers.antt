use Rattle.std.proofs.Common.{[], ◌∷◌, ◌++◌, Err}
use Rattle.bench.specs.Shown.{shown}
use Rattle.linkage.specs.Plans.{said, steps, coupling, claiming, confirming}
use Rattle.linkage.proofs.Plays.{stops, stops_first, goes_on}
use Rattle.linkage.proofs.plan.play_run.Goals as goal

pub returns-in_err-couple : goal.returns-in_err-couple
returns-in_err-couple c =
    let p = said c.args.plan.now in
    let f = shown c.args.bench.now in
    stops f (shown c.couple.new.bench) (steps p) c.from_residual.result c.in_err-couple.field-0.0 c.from_residual.ensures.1
    (stops_first f (coupling p.etb p.formation ∷ []) (claiming p.claimed p.vehicle p.direction ++ confirming p.confirmed) c.in_err-couple.field-0.0 c.in_err-couple.ensures.answer)

pub returns-in_err-claim_leading : goal.returns-in_err-claim_leading
returns-in_err-claim_leading c =
    let p = said c.args.plan.now in
    let f = shown c.args.bench.now in
    let g = shown c.couple.new.bench in
    let h = shown c.claim_leading.new.bench in
    let front = coupling p.etb p.formation ∷ [] in
    let claims = claiming p.claimed p.vehicle p.direction in
    let both = goes_on f g h front claims c.in_ok-couple.field-0 (Err c.in_err-claim_leading.field-0.0) c.in_ok-couple.ensures c.in_err-claim_leading.ensures in
    stops f h (steps p) c.from_residual-in_err-claim_leading.result c.in_err-claim_leading.field-0.0 c.from_residual-in_err-claim_leading.ensures.1
    (stops_first f (front ++ claims) (confirming p.confirmed) c.in_err-claim_leading.field-0.0 both.answer)
