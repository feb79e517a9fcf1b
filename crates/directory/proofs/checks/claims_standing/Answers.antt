use Rattle.std.proofs.Common.{rules, ◌≡◌, length, count_by, is_some, sym, ap, ◌∙◌}
use Rattle.std.proofs.lemmas.List.Sums.{length-filter}
use Rattle.bench.specs.Shown.{shown}
use Rattle.directory.specs.Operation.{leads}
use Rattle.directory.proofs.Places.{leads_counted}
use Rattle.directory.proofs.checks.claims_standing.Goals as goal

pub returns : goal.returns
returns c =
    let claims = (shown c.args.bench.now).claims in
    let es = c.formation-formation.result.now in
    let e : c.count.result ≡ count_by (λ e. is_some (claims e.identity)) es = search rules in
    e ∙ sym (length-filter (λ e. is_some (claims e.identity)) es) ∙ leads_counted claims es ∙ ap (λ xs. length (leads claims xs)) c.formation-formation.ensures.value
