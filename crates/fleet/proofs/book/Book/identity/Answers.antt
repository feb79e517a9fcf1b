use Rattle.std.proofs.Common.{rules, List, sym, ap, ◌∙◌, arith}
use Rattle.std.proofs.lemmas.Bool.Decides.{nat_tests}
use Rattle.fleet.specs.Books.{Item}
use Rattle.fleet.specs.Consists.{identity_at}
use Rattle.fleet.proofs.Identified.{identity_here, identity_past}
use Rattle.fleet.proofs.Holds.{held_is}
use Rattle.fleet.proofs.book.Book.identity.Goals as goal

pub returns-in_err-row : goal.returns-in_err-row
returns-in_err-row c =
    let b = c.args.self.now in
    c.from_residual-in_err-row.ensures
    ∙ identity_past b.consists.now b.vehicles.now c.args.k (grind (arith, nat_tests))
    ∙ sym (ap (λ (is : List Item). identity_at is c.args.k) (held_is b))

pub returns : goal.returns
returns c =
    let b = c.args.self.now in
    identity_here b.consists.now b.vehicles.now c.args.k c.in_ok-row.row.now _ (grind (arith, nat_tests)) (grind (arith, nat_tests)) (search rules) c.identity_of.ensures
    ∙ sym (ap (λ (is : List Item). identity_at is c.args.k) (held_is b))
