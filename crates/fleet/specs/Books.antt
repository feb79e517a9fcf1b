-- A book: the checks of its bytes, the fleet that it writes, and how a fleet is written as a book.
use Rattle.std.specs.Prelude.{◌≡◌, ℕ, zero, suc, ◌+◌, ◌*◌, ◌/◌, ◌%◌, ◌≤◌, Bool, true, false, cond, ◌&&◌, List, [], ◌∷◌, ◌++◌, map, length, take, drop, Some, None, Option, ◌==◌, nat_le, slice_index}
use Rattle.std.specs.List.{AllByRecursion, slice_get}
use Rattle.std.specs.Str.{bytes_eq}
use Rattle.train.specs.declared.entries.Vehicle.{Vehicle}
use Rattle.train.specs.declared.facing.Facing.{Facing}
use Rattle.train.specs.declared.facing.Facing.TheVariants.{NotKnown, Direct, Inverse}
use Rattle.train.specs.declared.identity.Identity.{Identity}
use Rattle.train.specs.declared.refusal.Reason.TheVariants.{BookHead, ConsistCount, VehicleCount}
use Rattle.train.specs.Facings.{code}
use Rattle.train.specs.Octets.{below, zeros}
use Rattle.train.specs.Refusals.{Check, must}
use Rattle.fleet.specs.Fleets.{Consist, Meaning, Pairs, IsConsist}
use Rattle.fleet.specs.Rows.{rows, identity_of, counter_of, size_of, name_of, facing_byte, entry_checks}

-- the parts of the bytes: version, release, consist count, consist entries, vehicle count, vehicle entries
abbrev pub count_of : List ℕ → ℕ
count_of bs = slice_index bs 2 * 256 + slice_index bs 3

abbrev pub entries_of : List ℕ → List ℕ
entries_of bs = take (count_of bs * 21) (drop 4 bs)

abbrev pub tail_of : List ℕ → List ℕ
tail_of bs = drop (count_of bs * 21) (drop 4 bs)

abbrev pub total_of : List ℕ → ℕ
total_of bs = slice_index (tail_of bs) 0 * 256 + slice_index (tail_of bs) 1

abbrev pub table_of : List ℕ → List ℕ
table_of bs = drop 2 (tail_of bs)

abbrev pub consist_rows : List ℕ → List (List ℕ)
consist_rows bs = rows 21 (count_of bs) (entries_of bs)

abbrev pub vehicle_rows : List ℕ → List (List ℕ)
vehicle_rows bs = rows 17 (total_of bs) (table_of bs)

-- four bytes at least, and version 1 release 0
abbrev pub headed : List ℕ → Bool
headed bs = nat_le 4 (length bs) && (slice_index bs 0 == 1 && slice_index bs 1 == 0)

-- 200 consists at most, and the vehicle count is there
abbrev pub reaching : List ℕ → Bool
reaching bs = nat_le (count_of bs) 200 && nat_le (6 + 21 * count_of bs) (length bs)

-- 2000 vehicles at most, and the length is that of the entries
abbrev pub fitting : List ℕ → Bool
fitting bs = nat_le (total_of bs) 2000 && length bs == 6 + 21 * count_of bs + 17 * total_of bs

abbrev pub head_checks : List ℕ → List Check
head_checks bs = must (headed bs) BookHead ∷ must (reaching bs) ConsistCount ∷ must (fitting bs) VehicleCount ∷ []

-- what opening a book checks, in this order
abbrev pub book_checks : List ℕ → List Check
book_checks bs = head_checks bs ++ entry_checks (consist_rows bs) (total_of bs) (vehicle_rows bs)

-- a consist with its identity
pub record Item : Type 0 where
  pub identity : Identity
  pub consist : Consist

abbrev pub meaning_of : List Item → Meaning
meaning_of [] id = None
meaning_of (i ∷ is) id = cond (bytes_eq i.identity.bytes id.bytes) (Some i.consist) (meaning_of is id)

-- reading: what the bytes of a book mean
abbrev pub facing_of : ℕ → Facing
facing_of b = cond (b == 1) Direct (cond (b == 2) Inverse NotKnown)

abbrev pub vehicle_of : List ℕ → Vehicle
vehicle_of row = record { name = record { bytes = name_of row }; facing = facing_of (facing_byte row) }

abbrev pub item_of : List ℕ → List (List ℕ) → Item
item_of row vehicles =
    record { identity = record { bytes = identity_of row }; consist = record { counter = counter_of row; vehicles = map vehicle_of vehicles } }

-- each consist has as many of the vehicle entries as it says, one after another
abbrev pub listed : List (List ℕ) → List (List ℕ) → List Item
listed [] vehicles = []
listed (row ∷ rest) vehicles = item_of row (take (size_of row) vehicles) ∷ listed rest (drop (size_of row) vehicles)

abbrev pub fleet_of : List ℕ → List Item
fleet_of bs = listed (consist_rows bs) (vehicle_rows bs)

-- writing: a number in two and in four bytes, high byte first
abbrev pub two : ℕ → List ℕ
two n = n / 256 ∷ n % 256 ∷ []

abbrev pub four : ℕ → List ℕ
four n = n / 16777216 ∷ n / 65536 % 256 ∷ n / 256 % 256 ∷ n % 256 ∷ []

abbrev pub item_row : Item → List ℕ
item_row i = i.identity.bytes ++ (four i.consist.counter ++ (length i.consist.vehicles ∷ []))

abbrev pub vehicle_row : Vehicle → List ℕ
vehicle_row v = v.name.bytes ++ (code v.facing ∷ [])

abbrev pub vehicles_in : List Item → List Vehicle
vehicles_in [] = []
vehicles_in (i ∷ is) = i.consist.vehicles ++ vehicles_in is

abbrev pub flat : List (List ℕ) → List ℕ
flat [] = []
flat (row ∷ rest) = row ++ flat rest

-- a fleet written as a book
abbrev pub book_of : List Item → List ℕ
book_of is = 1 ∷ 0 ∷ (two (length is) ++ (flat (map item_row is) ++ (two (length (vehicles_in is)) ++ flat (map vehicle_row (vehicles_in is)))))

-- the name of the k-th vehicle of all, counted from 1
abbrev pub name_in : Option Vehicle → Option (List ℕ)
name_in None = None
name_in (Some v) = Some v.name.bytes

abbrev pub name_at : List Item → ℕ → Option (List ℕ)
name_at is zero = None
name_at is (suc k) = name_in (slice_get (vehicles_in is) k)

pub record IsItem (i : Item) : Type 0 where
  pub whole : length i.identity.bytes ≡ 16
  pub real : bytes_eq i.identity.bytes zeros ≡ false
  pub consist : IsConsist i.consist

-- each identity stands below every later one
abbrev pub Rising : List Item → Type 0
Rising is = Pairs (λ i j. below i.identity.bytes j.identity.bytes ≡ true) is

-- a fleet that a book can hold, in rising order
pub record IsFleet (is : List Item) : Type 0 where
  pub short : length is ≤ 200
  pub small : length (vehicles_in is) ≤ 2000
  pub rising : Rising is
  pub each : AllByRecursion IsItem is

-- the bytes are the book of this fleet
pub record IsBook (bs : List ℕ) (is : List Item) : Type 0 where
  pub fleet : IsFleet is
  pub written : book_of is ≡ bs

-- What opening says of bytes that it accepts: they are the book of this fleet and of no other,
-- and no other book has the same meaning.
pub record Opened (bs : List ℕ) (is : List Item) : Type 0 where
  pub book : IsBook bs is
  pub only : (others : List Item) → IsBook bs others → others ≡ is
  pub apart : (cs : List ℕ) (others : List Item) → IsBook cs others → ((id : Identity) → meaning_of others id ≡ meaning_of is id) → cs ≡ bs

-- and of bytes that it refuses: they are the book of none
abbrev pub NoBook : List ℕ → Type 0
NoBook bs = (is : List Item) → IsBook bs is → ⊥
