-- How the parts of a fleet list are written.
use Rattle.std.specs.Prelude.{ℕ, ◌+◌, ◌/◌, ◌%◌, cond, List, [], ◌∷◌, ◌++◌, ◌==◌, nat_lt}
use Rattle.std.specs.List.{flat_map}
use Rattle.train.specs.declared.entries.Vehicle.{Vehicle}
use Rattle.train.specs.declared.facing.Facing.{Facing}
use Rattle.train.specs.declared.facing.Facing.TheVariants.{NotKnown, Direct, Inverse}
use Rattle.train.specs.Names.{text_of}

-- a hex digit: 0-9, a-f
abbrev pub hex : ℕ → ℕ
hex n = cond (nat_lt n 10) (48 + n) (87 + n)

abbrev pub byte_text : ℕ → List ℕ
byte_text b = hex (b / 16) ∷ hex (b % 16) ∷ []

-- a quote mark and a backslash stand behind a backslash
abbrev pub escaped : ℕ → List ℕ
escaped b = cond (b == 34) (92 ∷ b ∷ []) (cond (b == 92) (92 ∷ b ∷ []) (b ∷ []))

abbrev pub quoted : List ℕ → List ℕ
quoted text = 34 ∷ (flat_map escaped text ++ 34 ∷ [])

-- + for direct, - for inverse; no fleet has a facing that is not known
abbrev pub sign : Facing → List ℕ
sign NotKnown = 63 ∷ []
sign Direct = 43 ∷ []
sign Inverse = 45 ∷ []

-- a vehicle: a space, its quoted name, its facing
abbrev pub vehicle_text : Vehicle → List ℕ
vehicle_text v = 32 ∷ (quoted (text_of v.name.bytes) ++ sign v.facing)
