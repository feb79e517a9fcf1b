use Rattle.std.proofs.Common.{◌≡◌, ◌≤◌, length, None, sym, ap, ◌∙◌, subst, rules}
use Rattle.bench.specs.Facts.{coupled_in, Place}
use Rattle.bench.proofs.Places.{kept_none}
use Rattle.bench.proofs.Acts.{claim_read}
use Rattle.bench.proofs.state.Bench.claim_of.Goals as goal

pub returns-in_err-place : goal.returns-in_err-place
returns-in_err-place c =
    let x = c.args.identity.now in
    let b = c.args.self.now in
    c.from_residual.ensures ∙ sym (kept_none x b.formation.items b.claims (ap (coupled_in x) (sym c.formation.ensures.value) ∙ c.in_err-place.ensures))

pub returns : goal.returns
returns c =
    let x = c.args.identity.now in
    let b = c.args.self.now in
    let long : length b.claims ≡ 63 = search rules in
    claim_read x b.formation.items b.claims c.in_ok-place.place (subst (λ es. Place x es c.in_ok-place.place) c.formation.ensures.value c.in_ok-place.ensures)
    (subst (λ es. length es ≤ 63) c.formation.ensures.value c.formation.ensures.few) long None
