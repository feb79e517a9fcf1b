-- The written composition: a head, three counters, three sections.
use Rattle.std.specs.Prelude.{ℕ, ◌+◌, ◌*◌, ◌/◌, ◌%◌, ◌^◌, Bool, cond, List, [], ◌∷◌, ◌++◌, length, Some, None, Option, ◌==◌}
use Rattle.train.specs.declared.identity.Identity.{Identity}
use Rattle.train.specs.declared.entries.Coupled.{Coupled}
use Rattle.train.specs.declared.facing.Facing.{Facing}
use Rattle.train.specs.declared.facing.Facing.TheVariants.{NotKnown, Direct, Inverse}
use Rattle.train.specs.Facings.{code}
use Rattle.train.specs.Identities.{same_identity, same_name}
use Rattle.sc32.specs.Checksum.{checksum}
use Rattle.fleet.specs.Fleets.{Consist, Meaning}
use Rattle.bench.specs.Facts.{Facts}
use Rattle.directory.specs.declared.cars.Car.{Car}
use Rattle.directory.specs.Cars.{train}
use Rattle.directory.specs.Operation.{orientation, operational}

-- four bytes, the high one first
abbrev pub four : ℕ → List ℕ
four n = n / 2 ^ 24 % 256 ∷ n / 2 ^ 16 % 256 ∷ n / 2 ^ 8 % 256 ∷ n % 256 ∷ []

-- a section: a count, and then a row for each, with its number from 1
abbrev pub rows : {A : Type 0} → (ℕ → A → List ℕ) → ℕ → List A → List ℕ
rows row n [] = []
rows row n (x ∷ xs) = row n x ++ rows row (n + 1) xs

abbrev pub section : {A : Type 0} → (ℕ → A → List ℕ) → List A → List ℕ
section row xs = length xs ∷ rows row 1 xs

-- Operational consists are the unbroken runs of vehicles of one consist, inserted ones of none.

-- the first vehicle of each run, behind a vehicle of the consist x
abbrev pub firsts : Identity → List Car → List Car
firsts x [] = []
firsts x (c ∷ cs) = cond (same_identity x c.consist) (firsts x cs) (c ∷ firsts c.consist cs)

-- a vehicle with the number of its operational consist
pub record Seat : Type 0 where
  pub car : Car
  pub run : ℕ

abbrev pub seats : ℕ → Identity → List Car → List Seat
seats n x [] = []
seats n x (c ∷ cs) =
    cond (same_identity x c.consist)
    (record { car = c; run = n } ∷ seats n x cs)
    (record { car = c; run = n + 1 } ∷ seats (n + 1) c.consist cs)

-- no consist's identity, not even an inserted one's
abbrev pub nobody : Identity
nobody = record { bytes = [] }

-- the place of the first that passes, counted from n; 0 where none does
abbrev pub place : {A : Type 0} → (A → Bool) → ℕ → List A → ℕ
place test n [] = 0
place test n (x ∷ xs) = cond (test x) n (place test (n + 1) xs)

-- the train number of a vehicle's consist, and of the vehicle; 0 of what is inserted
abbrev pub consist_number : Facts → Car → List ℕ
consist_number f c = place (λ e. same_identity c.consist e.identity) 1 f.formation ∷ []

abbrev pub vehicle_number : Facts → Meaning → Car → List ℕ
vehicle_number f m c = place (λ d. same_name c.name d.name) 1 (train m f.claims f.formation) ∷ []

-- leading mark: 1 no, 2 yes
abbrev pub lead_byte : Facing → ℕ
lead_byte NotKnown = 1
lead_byte Direct = 2
lead_byte Inverse = 2

abbrev pub counter_of : Option Consist → ℕ
counter_of None = 0
counter_of (Some c) = c.counter

-- a train consist: identity, consist counter, train number, formation facing, two zeros
abbrev pub entry_row : Meaning → ℕ → Coupled → List ℕ
entry_row m n e = e.identity.bytes ++ (four (counter_of (m e.identity)) ++ (n ∷ code e.facing ∷ 0 ∷ 0 ∷ []))

-- an operational consist: identity, operational number, operational facing, train number, zero
abbrev pub consist_row : (Car → List ℕ) → ℕ → Car → List ℕ
consist_row number n c = c.consist.bytes ++ (n ∷ code c.stance ∷ (number c ++ (0 ∷ [])))

-- an operational vehicle: name, operational number, leading mark, claimed direction, train number, facing, operational consist
-- number, two zeros
abbrev pub vehicle_row : (Car → List ℕ) → ℕ → Seat → List ℕ
vehicle_row number n s =
    s.car.name.bytes ++ (n ∷ lead_byte s.car.lead ∷ code s.car.lead ∷ (number s.car ++ (code s.car.facing ∷ s.run ∷ 0 ∷ 0 ∷ [])))

-- the two operational sections, with the train numbers that they are given
abbrev pub operational_sections : (Car → List ℕ) → (Car → List ℕ) → List Car → List ℕ
operational_sections number_of_consist number_of_vehicle cs =
    section (consist_row number_of_consist) (firsts nobody cs) ++ section (vehicle_row number_of_vehicle) (seats 0 nobody cs)

-- 1 unconfirmed, 2 confirmed
abbrev pub status : Facts → ℕ
status f = cond (0 == length f.confirmed) 1 2

-- the train consists, and the operational consists and vehicles
abbrev pub train_part : Facts → Meaning → List ℕ
train_part f m = section (entry_row m) f.formation

abbrev pub operational_part : Facts → Meaning → List ℕ
operational_part f m = operational_sections (consist_number f) (vehicle_number f m) (operational f m)

-- the train counter covers the train consists, seeded by the ETB counter; the operational counter covers the other two sections,
-- seeded by the train counter
abbrev pub train_counter : Facts → Meaning → ℕ
train_counter f m = checksum f.etb (train_part f m)

abbrev pub operational_counter : Facts → Meaning → ℕ
operational_counter f m = checksum (train_counter f m) (operational_part f m)

abbrev pub header : Facts → Meaning → List ℕ
header f m =
    (1 ∷ 0 ∷ code (orientation f) ∷ status f ∷ []) ++ (four f.etb ++ (four (train_counter f m) ++ four (operational_counter f m)))

abbrev pub composition : Facts → Meaning → List ℕ
composition f m = header f m ++ (train_part f m ++ operational_part f m)

-- its length
abbrev pub size : Facts → Meaning → ℕ
size f m = 19 + 24 * length f.formation + 20 * length (firsts nobody (operational f m)) + 24 * length (operational f m)

-- byte 3 and the operational sections, without train numbers
abbrev pub leading_end : Facts → Meaning → List ℕ
leading_end f m = status f ∷ operational_sections (λ _. []) (λ _. []) (operational f m)
