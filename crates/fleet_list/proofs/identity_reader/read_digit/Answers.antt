use Rattle.std.proofs.Common.{ℕ, ◌∷◌, [], Some, None, Option, ap, rules, arith}
use Rattle.fleet_list.specs.Parts.{same, Nibble, digit_text, Digit, IsHex}
use Rattle.fleet_list.proofs.Cursors.{Makes, one_taken}
use Rattle.fleet_list.proofs.Hex.{first_digit}
use Rattle.fleet_list.proofs.identity_reader.read_digit.Goals as goal

makes : (b : ℕ) (o : Option ℕ) → Digit b o → Makes Nibble digit_text same IsHex b o
makes b (Some n) h = (h.0, ap (λ x. x ∷ []) h.1)
makes b None h = h

pub returns : goal.returns
returns c = one_taken Nibble digit_text same IsHex 0 (omega arith) first_digit c.take.ensures (λ o l p. search (rules, makes))
