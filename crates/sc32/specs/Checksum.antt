-- SC-32. A 32-bit register starts at a seed. Each byte is exclusive-ored into the top eight bits.
-- Eight times the register moves left one bit, and takes exclusive-or with F4ACFB13 hex if a 1 left it.
-- Assumes nothing.
use Rattle.std.specs.Prelude.{ℕ, zero, suc, ◌*◌, ◌/◌, ◌%◌, ◌^◌, cond, List, [], ◌∷◌, ◌==◌, bit_xor}

-- one bit to the left, with the exclusive-or if a 1 left
abbrev pub bit_step : ℕ → ℕ
bit_step register = cond (register / 2 ^ 31 == 0) (register * 2 % 2 ^ 32) (bit_xor (register * 2 % 2 ^ 32) 0xF4AC_FB13)

unfoldable pub bit_steps : ℕ → ℕ → ℕ
bit_steps zero register = register
bit_steps (suc n) register = bit_step (bit_steps n register)

-- one byte, into the top eight bits, and eight bits to the left
abbrev pub byte_step : ℕ → ℕ → ℕ
byte_step register byte = bit_steps 8 (bit_xor register (byte * 2 ^ 24))

-- the register after the bytes, from a seed
unfoldable pub checksum : ℕ → List ℕ → ℕ
checksum seed [] = seed
checksum seed (byte ∷ bytes) = checksum (byte_step seed byte) bytes
