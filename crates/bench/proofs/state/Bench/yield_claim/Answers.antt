use Rattle.std.proofs.Common.{◌≡◌, None, is_some, length, rules, sym, ap, ◌∙◌}
use Rattle.std.proofs.lemmas.Result.{err_from_is_err_and}
use Rattle.bench.specs.Calls.{Call}
use Rattle.bench.specs.Shown.{shown}
use Rattle.train.specs.Refusals.{refusal_of}
use Rattle.bench.proofs.Acts.{refused_keeps, taken_does, with_claims, claim_put, claim_read}
use Rattle.bench.proofs.state.Bench.yield_claim.Goals as goal

pub returns-in_err-require-clause-answer : goal.returns-in_err-require-clause-answer
returns-in_err-require-clause-answer c =
    let f = shown c.args.self.now in
    let long : length c.args.self.now.claims ≡ 63 = search rules in
    let held = c.is_some.ensures ∙ ap is_some (claim_read c.args.identity f.formation c.args.self.now.claims c.in_ok-place.place c.in_ok-place.ensures.value.0 c.in_ok-place.ensures.value.2 long None) in
    search rules

pub returns-clause-answer : goal.returns-clause-answer
returns-clause-answer c =
    let f = shown c.args.self.now in
    let long : length c.args.self.now.claims ≡ 63 = search rules in
    let held = c.is_some.ensures ∙ ap is_some (claim_read c.args.identity f.formation c.args.self.now.claims c.in_ok-place.place c.in_ok-place.ensures.value.0 c.in_ok-place.ensures.value.2 long None) in
    search rules

pub returns-in_err-require-clause-facts : goal.returns-in_err-require-clause-facts
returns-in_err-require-clause-facts c =
    let p = err_from_is_err_and c.from_residual-in_err-require.result c.from_residual-in_err-require.ensures.1 in
    refused_keeps (shown c.args.self.now) (Call.yield c.args.identity) _ (sym (ap refusal_of p.1) ∙ returns-in_err-require-clause-answer c)

pub returns-clause-facts : goal.returns-clause-facts
returns-clause-facts c =
    let f = shown c.args.self.now in
    let x = c.args.identity in
    let long : length c.args.self.now.claims ≡ 63 = search rules in
    let set = claim_put x f.formation c.args.self.now.claims c.in_ok-place.place c.in_ok-place.ensures.value.0 c.in_ok-place.ensures.value.2 long None in
    ap (with_claims f) set ∙ taken_does f (Call.yield x) (returns-clause-answer c)
