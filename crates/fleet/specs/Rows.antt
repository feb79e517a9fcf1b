-- The entries of a book as rows of bytes, and the checks over them.
use Rattle.std.specs.Prelude.{ℕ, ◌+◌, ◌*◌, Bool, not, ◌&&◌, ◌||◌, List, [], ◌∷◌, take, drop, ◌==◌, nat_le, slice_index}
use Rattle.std.specs.Simd.{first_chunks}
use Rattle.std.specs.Str.{bytes_eq}
use Rattle.train.specs.declared.refusal.Place.{Place}
use Rattle.train.specs.declared.refusal.Place.TheVariants.{At, InLine}
use Rattle.train.specs.declared.refusal.Reason.TheVariants.{IdentityOrder, ZeroCounter, EntryCount, VehicleSum, NameForm, UnknownFacing, Repeated}
use Rattle.train.specs.Identities as identities
use Rattle.train.specs.Names.{well_formed}
use Rattle.train.specs.Refusals.{Check, Rule, must, each, alone, fresh, by}

-- the first n rows of w bytes
abbrev pub rows : ℕ → ℕ → List ℕ → List (List ℕ)
rows w n bs = first_chunks w n bs

-- an entry of a consist: identity, counter, vehicle count
abbrev pub identity_of : List ℕ → List ℕ
identity_of row = take 16 row

abbrev pub counter_of : List ℕ → ℕ
counter_of row = slice_index row 16 * 16777216 + slice_index row 17 * 65536 + slice_index row 18 * 256 + slice_index row 19

abbrev pub size_of : List ℕ → ℕ
size_of row = slice_index row 20

-- an entry of a vehicle: name, facing
abbrev pub name_of : List ℕ → List ℕ
name_of row = take 16 row

abbrev pub facing_byte : List ℕ → ℕ
facing_byte row = slice_index row 16

-- the identity of the last of these rows; before the first row no bytes, which stand below every identity
abbrev pub last_identity : List (List ℕ) → List ℕ
last_identity = identities.last_identity identity_of

-- an identity is not zero, and above the one before
abbrev pub rises : List ℕ → List ℕ → Bool
rises = identities.rises

abbrev pub ascending : Rule (List ℕ)
ascending before row = rises (last_identity before) (identity_of row)

abbrev pub counted : List ℕ → Bool
counted row = not (counter_of row == 0)

abbrev pub sized : List ℕ → Bool
sized row = nat_le 1 (size_of row) && nat_le (size_of row) 32

-- how many vehicles the rows have together
abbrev pub sizes : List (List ℕ) → ℕ
sizes [] = 0
sizes (row ∷ rest) = size_of row + sizes rest

abbrev pub named : List ℕ → Bool
named row = well_formed (name_of row)

abbrev pub faced : List ℕ → Bool
faced row = facing_byte row == 1 || facing_byte row == 2

-- a check of entries that stand behind n others: its place counts those too
abbrev pub further : ℕ → Place → Place
further n (At p) = At (n + p)
further n (InLine l b) = InLine l b

abbrev pub behind : ℕ → Check → Check
behind n c = record { ok = c.ok; reason = c.reason; place = further n c.place }

-- no name twice in a consist: a check for each consist, whose vehicles follow one another
abbrev pub apart_checks : ℕ → List (List ℕ) → List (List ℕ) → List Check
apart_checks from [] vehicles = []
apart_checks from (row ∷ rest) vehicles =
    behind from (each (fresh (by bytes_eq name_of)) Repeated (take (size_of row) vehicles))
    ∷ apart_checks (from + size_of row) rest (drop (size_of row) vehicles)

-- the checks over the entries, in their order
abbrev pub entry_checks : List (List ℕ) → ℕ → List (List ℕ) → List Check
entry_checks consists total vehicles =
    each ascending IdentityOrder consists
    ∷ each (alone counted) ZeroCounter consists
    ∷ each (alone sized) EntryCount consists
    ∷ must (sizes consists == total) VehicleSum
    ∷ each (alone named) NameForm vehicles
    ∷ each (alone faced) UnknownFacing vehicles
    ∷ apart_checks 0 consists vehicles
