use Rattle.std.proofs.Common.{List, sym, refl, ap, ◌∙◌}
use Rattle.fleet.specs.Fleets.{found_in}
use Rattle.fleet.specs.Books.{Item, meaning_of}
use Rattle.fleet.specs.Means.{found_at, meaning_none}
use Rattle.fleet.proofs.Holds.{held_is}
use Rattle.fleet.proofs.book.calls.BookFleet.look_up.Goals as goal

pub returns-in_err-row : goal.returns-in_err-row
returns-in_err-row c =
    let b = c.args.self.now in
    c.from_residual.ensures
    ∙ sym (ap (λ (is : List Item). found_in (meaning_of is c.args.identity.now)) (held_is b)
    ∙ ap found_in (meaning_none c.args.identity.now 0 b.consists.now b.vehicles.now (sym c.in_err-row.ensures.found)))

pub returns : goal.returns
returns c =
    let b = c.args.self.now in
    let f = c.in_ok-row.ensures in
    found_at b.consists.now b.vehicles.now c.args.identity.now c.in_ok-row.field-0 b.sum f.below f.found _ refl c.counter_of.result c.size_of.result c.counter_of.ensures c.size_of.ensures
    ∙ sym (ap (λ (is : List Item). found_in (meaning_of is c.args.identity.now)) (held_is b))
