use Rattle.std.proofs.Common.{◌≡◌, ℕ, ◌<◌, [], length, get_or}
use Rattle.console.specs.Texts.{byte_text}
use Rattle.console.proofs.fields.hex_array.Given as goal

abbrev pub invariant-loop-i : goal.invariant-loop-i
invariant-loop-i g l = (length l.bytes ≡ length l.pairs) × ((k : ℕ) → k < l.i → byte_text (get_or l.bytes k 0) ≡ get_or l.pairs k [])
