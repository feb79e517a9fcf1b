-- The parts of a line, each with what ends it.
use Rattle.std.specs.Prelude.{◌≡◌, ℕ, ◌<◌, ◌≤◌, true, ◌⊎◌, List, [], ◌∷◌, ◌++◌, map, length, Some, None, Option}
use Rattle.std.specs.List.{flat_map, AllByRecursion}
use Rattle.train.specs.Facings.{known}
use Rattle.train.specs.Names.{IsName, text_of}
use Rattle.train.specs.declared.entries.Vehicle.{Vehicle}
use Rattle.train.specs.declared.facing.Facing.{Facing}
use Rattle.train.specs.declared.identity.Identity.{Identity}
use Rattle.train.specs.declared.name.Name.{Name}
use Rattle.fleet_list.specs.Forms.{Both, joint}
use Rattle.fleet_list.specs.Texts.{hex, byte_text, escaped, quoted, sign}

abbrev pub same : {R : Type 0} → R → R
same x = x

abbrev pub Nibble : ℕ → Type 0
Nibble n = n < 16

abbrev pub digit_text : ℕ → List ℕ
digit_text n = hex n ∷ []

abbrev pub IsHex : ℕ → Type 0
IsHex b = ((48 ≤ b) × (b ≤ 57)) ⊎ ((97 ≤ b) × (b ≤ 102))

-- the digit that b is, if it is one
abbrev pub Digit : ℕ → Option ℕ → Type 0
Digit b (Some n) = (n < 16) × (hex n ≡ b)
Digit b None = IsHex b → ⊥

abbrev pub Byte : ℕ → Type 0
Byte b = b < 256

-- the hex digits of m bytes, and a space
abbrev pub Bytes : ℕ → List ℕ → Type 0
Bytes m bs = (length bs ≡ m) × AllByRecursion Byte bs

abbrev pub bytes_text : List ℕ → List ℕ
bytes_text bs = flat_map byte_text bs ++ 32 ∷ []

abbrev pub bytes_of : Identity → List ℕ
bytes_of i = i.bytes

-- what a byte of a name may be
abbrev pub Letter : ℕ → Type 0
Letter b = (32 ≤ b) × (b ≤ 126)

-- the byte of a name that b is by itself, if it is one
abbrev pub Plain : ℕ → Option ℕ → Type 0
Plain b (Some n) = Letter n × (escaped n ≡ b ∷ []) × (n ≡ b)
Plain b None = Letter b → escaped b ≡ b ∷ [] → ⊥

-- the byte of a name that b is behind a backslash, if it is one
abbrev pub Marked : ℕ → Option ℕ → Type 0
Marked b (Some n) = Letter n × (escaped n ≡ 92 ∷ b ∷ []) × (n ≡ b)
Marked b None = escaped b ≡ 92 ∷ b ∷ [] → ⊥

abbrev pub name_bytes : Name → List ℕ
name_bytes n = n.bytes

-- a name of sixteen bytes, in quotes without the zeros behind it
abbrev pub name_text : List ℕ → List ℕ
name_text bs = quoted (text_of bs)

-- the facing whose sign b is, if it is one
abbrev pub Sign : ℕ → Option Facing → Type 0
Sign b (Some f) = (known f ≡ true) × (sign f ≡ b ∷ [])
Sign b None = ((b ≡ 43) ⊎ (b ≡ 45)) → ⊥

abbrev pub Known : Facing → Type 0
Known f = known f ≡ true

-- a vehicle: a quoted name and a facing
abbrev pub Car : Type 0
Car = List ℕ × Facing

abbrev pub GoodCar : Car → Type 0
GoodCar = Both IsName Known

abbrev pub car : Car → List ℕ
car = joint name_text sign

abbrev pub car_of : Vehicle → Car
car_of v = (v.name.bytes, v.facing)

abbrev pub cars : List Vehicle → List Car
cars vs = map car_of vs

-- a vehicle behind a space
abbrev pub spaced : Car → List ℕ
spaced v = 32 ∷ car v

-- at most m vehicles behind the first, and the end of the line
abbrev pub Few : ℕ → List Car → Type 0
Few m vs = (length vs ≤ m) × AllByRecursion GoodCar vs

abbrev pub others : List Car → List ℕ
others vs = flat_map spaced vs ++ 10 ∷ []
