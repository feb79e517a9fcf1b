-- Tables that the register's steps are read from.
use Rattle.std.specs.Prelude.{◌≡◌, ℕ, ◌*◌, ◌^◌, ◌<◌, List, slice_index}
use Rattle.sc32.specs.Checksum.{bit_steps}

-- entry b is what so many steps make of the byte b in the top eight bits
abbrev pub Tabulates : ℕ → List ℕ → Type 0
Tabulates steps table = (b : ℕ) → b < 256 → slice_index table b ≡ bit_steps steps (b * 2 ^ 24)
