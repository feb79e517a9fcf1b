use Rattle.std.proofs.Common.{◌≡◌, ℕ, Bool, true, false, eqb, Option, refl, rules, eqb-true}
use borrow.Author.Tests.{eqb-false}
use Rattle.std.specs.Bool.{then_some}
use Rattle.fleet_list.specs.Cursors.{Exactly}
use Rattle.fleet_list.proofs.Cursors.{say_more}
use Rattle.fleet_list.proofs.cursor.Cursor.expect.Goals as goal

by_test : (b x : ℕ) (t : Bool) → eqb x b ≡ t → Exactly b x (then_some t tt)
by_test b x true e = eqb-true x b e
by_test b x false e = eqb-false x b e

exactly : (b x : ℕ) (o : Option (Unit {0})) → o ≡ then_some (eqb x b) tt → Exactly b x o
exactly b x o e = rw e (by_test b x (eqb x b) refl)

pub returns : goal.returns
returns c = say_more c.take.ensures (λ x o p. search (rules, exactly))
