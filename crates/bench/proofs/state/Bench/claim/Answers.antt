use Rattle.std.proofs.Common.{◌≡◌, None, Some, length, rules, ap, ◌∙◌}
use Rattle.bench.specs.Calls.{Call}
use Rattle.bench.specs.Facts.{put}
use Rattle.bench.specs.Shown.{shown}
use Rattle.train.specs.declared.refusal.Part.TheVariants.{Bench as OfBench}
use Rattle.train.specs.Refusals.{refusal}
use Rattle.bench.specs.Facts.{checks}
use Rattle.bench.proofs.Acts.{taken_does, with_claims, claim_put}
use Rattle.bench.proofs.state.Bench.claim.Goals as goal

pub returns-clause-facts : goal.returns-clause-facts
returns-clause-facts c =
    let f = shown c.args.self.now in
    let x = c.args.identity in
    let k = Call.claim x c.args.vehicle c.args.direction in
    let long : length c.args.self.now.claims ≡ 63 = search rules in
    let taken : None ≡ refusal OfBench (checks f k) = search rules in
    let set = claim_put x f.formation c.args.self.now.claims c.in_ok-place.place c.in_ok-place.ensures.value.0 c.in_ok-place.ensures.value.2 long (Some c.in_ok-claim.claim) in
    ap (with_claims f) (set ∙ ap (λ claim. put f.claims x (Some claim)) c.in_ok-claim.ensures.value.0) ∙ taken_does f k taken
