-- Importing a list: the checks over its lines, and what the call answers.
use Rattle.std.specs.Prelude.{◌≡◌, ℕ, Bool, ◌⊎◌, List, [], ◌∷◌, map, length, Some, None, Ok, Err, Result, nat_le}
use Rattle.std.specs.List.{AllByRecursion}
use Rattle.std.specs.Str.{bytes_eq}
use Rattle.train.specs.Refusals.{Check, Rule, must, each, alone, keeps, fresh, by, refusal, refusal_of}
use Rattle.train.specs.declared.entries.Vehicle.{Vehicle}
use Rattle.train.specs.declared.refusal.Part.TheVariants.{Text}
use Rattle.train.specs.declared.refusal.Place.TheVariants.{At}
use Rattle.train.specs.declared.refusal.Reason.TheVariants.{ConsistCount, VehicleCount, IdentityOrder, Repeated, BufferShort}
use Rattle.train.specs.declared.refusal.Refusal.{Refusal}
use Rattle.train.specs.Identities.{ascending}
use Rattle.fleet.specs.Books.{Item, IsFleet, vehicles_in, book_of}
use Rattle.fleet_list.specs.Lists.{IsLine, list_text}
use Rattle.fleet_list.specs.Readings.{Broken}
use Rattle.fleet_list.specs.Writes.{Written}

abbrev pub identity_in : Item → List ℕ
identity_in i = i.identity.bytes

abbrev pub vehicles_of : Item → List Vehicle
vehicles_of i = i.consist.vehicles

-- an identity is not zero, and above the one before
abbrev pub rising : Rule (List ℕ)
rising = ascending (λ id. id)

-- no name twice
abbrev pub names_apart : List Vehicle → Bool
names_apart vs = keeps (fresh (by bytes_eq (λ v. v.name.bytes))) [] vs

-- there is room for so many bytes
abbrev pub room_for : ℕ → ℕ → Check
room_for need room = record { ok = nat_le need room; reason = BufferShort; place = At need }

-- what import checks of lines that are not too many
abbrev pub line_checks : List Item → ℕ → List Check
line_checks is room =
    each rising IdentityOrder (map identity_in is)
    ∷ each (alone names_apart) Repeated (map vehicles_of is)
    ∷ room_for (length (book_of is)) room
    ∷ []

-- what import checks of the lines, in this order
abbrev pub list_checks : List Item → ℕ → List Check
list_checks is room =
    must (nat_le (length is) 200) ConsistCount
    ∷ must (nat_le (length (vehicles_in is)) 2000) VehicleCount
    ∷ line_checks is room

-- the text is the list of a fleet, whose book is written at the front of the buffer
pub record Carried (t before : List ℕ) (n : ℕ) (after : List ℕ) : Type 0 where
  pub items : List Item
  pub lines : AllByRecursion IsLine items
  pub fleet : IsFleet items
  pub is : t ≡ list_text items
  pub wrote : Written (book_of items) before n after

-- the text is a list of lines that do not meet the checks
pub record Unmet (t : List ℕ) (room : ℕ) (f : Refusal) : Type 0 where
  pub items : List Item
  pub lines : AllByRecursion IsLine items
  pub is : t ≡ list_text items
  pub refused : refusal Text (list_checks items room) ≡ Some f

abbrev pub Imported : List ℕ → List ℕ → List ℕ → Result ℕ Refusal → Type 0
Imported t before after (Ok n) = Carried t before n after
Imported t before after (Err f) = (after ≡ before) × (Broken t f ⊎ Unmet t (length before) f)

-- what becomes of consists in the tables
abbrev pub Stored : List Item → List ℕ → List ℕ → Result ℕ Refusal → Type 0
Stored is before after (Ok n) = (refusal Text (line_checks is (length before)) ≡ None) × Written (book_of is) before n after
Stored is before after (Err f) = (refusal Text (line_checks is (length before)) ≡ Some f) × (after ≡ before)

-- Every text breaks at one place, or is the list of some lines; what it is decides the answer.
pub record Decided (t before : List ℕ) (r : Result ℕ Refusal) : Type 0 where
  pub breaks : (f : Refusal) → Broken t f → refusal_of r ≡ Some f
  pub lists : (is : List Item) → AllByRecursion IsLine is → t ≡ list_text is → refusal_of r ≡ refusal Text (list_checks is (length before))
