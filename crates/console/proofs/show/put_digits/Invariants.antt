use Rattle.std.proofs.Common.{◌≡◌, ◌*◌, length, take}
use Rattle.console.specs.Texts.{hex_text}
use Rattle.console.proofs.show.put_digits.Given as goal

abbrev pub invariant-loop-i : goal.invariant-loop-i
invariant-loop-i l = (length l.text ≡ 2 * length l.bytes) × (take (2 * l.i) l.text ≡ hex_text (take l.i l.bytes))
