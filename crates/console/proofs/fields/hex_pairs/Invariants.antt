use Rattle.std.proofs.Common.{◌≡◌, ℕ, ◌<◌, [], length, get_or}
use Rattle.console.specs.Texts.{byte_text}
use Rattle.console.proofs.fields.hex_pairs.Given as goal

abbrev pub invariant-loop-pair : goal.invariant-loop-pair
invariant-loop-pair l = (length l.bytes.items ≡ l.pair-index) × ((k : ℕ) → k < l.pair-index → byte_text (get_or l.bytes.items k 0) ≡ get_or l.pairs k [])
