use Rattle.std.proofs.Common.{◌≡◌, ℕ, Some, None, Option, ⊎_elim, ◌∷◌, [], sym, refl, ap, ◌∙◌, arith}
use Rattle.fleet_list.specs.Parts.{same, Letter, Plain, Marked}
use Rattle.fleet_list.specs.Texts.{escaped}
use Rattle.fleet_list.proofs.Cursors.{Makes, one_taken, not_at, behind_byte}
use Rattle.fleet_list.proofs.Letters.{Hidden, only, Starts, first_letter, first_hidden, show, hide}
use Rattle.fleet_list.proofs.name_reader.read_letter.Goals as goal

plain_makes : (b : ℕ) (o : Option ℕ) → (b ≡ 92 → ⊥) → Plain b o → Makes Letter escaped same Starts b o
plain_makes b (Some n) h p = (p.0, p.1)
plain_makes b None h p = ⊎_elim h (λ g. p g.0 g.1)

marked_makes : (b : ℕ) (o : Option ℕ) → Marked b o → Makes Hidden only same Hidden b o
marked_makes b (Some n) p = ((p.0, p.1 ∙ ap (λ z. 92 ∷ z ∷ []) (sym p.2)), ap only p.2)
marked_makes b None p = λ g. p g.1

pub returns-then-not-is_at : goal.returns-then-not-is_at
returns-then-not-is_at c = one_taken Letter escaped same Starts 65 (omega arith, omega arith) first_letter c.take.ensures (λ o l p. plain_makes _ o (not_at c.is_at.ensures c.if-not-is_at.true l) p)

pub returns : goal.returns
returns c =
    behind_byte Hidden only Letter escaped 92 same same show hide (λ r g. (g.0, g.1)) c.take-2.result c.in_ok-expect.ensures
    (one_taken Hidden only same Hidden 34 ((omega arith, omega arith), refl) first_hidden c.take-2.ensures (λ o l p. marked_makes _ o p))
