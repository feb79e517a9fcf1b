-- The page that is printed for a fleet list.
use Rattle.std.specs.Prelude.{◌≡◌, ℕ, ◌+◌, ◌/◌, ◌%◌, ◌<◌, ◌≤◌, Bool, List, [], ◌∷◌, ◌++◌, length, Some, None, codes, decimal, Option}
use Rattle.std.specs.List.{AllByRecursion}
use Rattle.train.specs.declared.entries.Vehicle.{Vehicle}
use Rattle.train.specs.declared.facing.Facing.{Facing}
use Rattle.train.specs.declared.refusal.Refusal.{Refusal}
use Rattle.train.specs.Names.{text_of, well_formed}
use Rattle.train.specs.Refusals.{number}
use Rattle.train.specs.Words.{facing_text, place_text}
use Rattle.fleet.specs.Books.{Item, vehicles_in}
use Rattle.fleet_list.specs.Lists.{IsLine, list_text}
use Rattle.fleet_list.specs.Readings.{Broken}
use Rattle.directory.specs.Sections.{rows}
use Rattle.coach_order.specs.Orders.{uncoupled}
use Rattle.coach_order.specs.Ordered.{Lists, Refused}
use Rattle.coach_order.specs.Plain.{refusal_of_list}

-- a number in two digits
abbrev pub two_digits : ℕ → List ℕ
two_digits n = (48 + n / 10 % 10) ∷ (48 + n % 10) ∷ []

-- a line: a number, a facing, a name
abbrev pub line_text : ℕ → Facing → List ℕ → List ℕ
line_text n f name = two_digits n ++ (32 ∷ (facing_text f ++ (32 ∷ (name ++ 10 ∷ []))))

-- a line up to the name
abbrev pub line_start : ℕ → Facing → List ℕ
line_start n f = two_digits n ++ (32 ∷ (facing_text f ++ (32 ∷ [])))

-- a vehicle: its number, its sign, its name
abbrev pub vehicle_line : ℕ → Vehicle → List ℕ
vehicle_line n v = line_text n v.facing (text_of v.name.bytes)

-- the name can be printed
abbrev pub named : Vehicle → Bool
named v = well_formed v.name.bytes

-- how many vehicles there are, and a line for each, with its number from 1
abbrev pub order_text : List Vehicle → List ℕ
order_text vs = codes "vehicles " ++ (decimal (length vs) ++ 10 ∷ rows vehicle_line 1 vs)

abbrev pub refusal_text : Refusal → List ℕ
refusal_text f = codes "refused " ++ (decimal (number f.reason) ++ (codes " " ++ (place_text f.place ++ 10 ∷ [])))

-- The page of a text: it is too long; or it is a list, and these are its vehicles from the head; or it is refused.
pub data Page (t page : List ℕ) : Type 0 where
  long : 65535 < length t → page ≡ codes "too long" ++ 10 ∷ [] → Page t page
  order : length t ≤ 65535 → (is : List Item) → Lists t is → uncoupled is ≡ None → page ≡ order_text (vehicles_in is) → Page t page
  refused : length t ≤ 65535 → (f : Refusal) → Refused t f → page ≡ refusal_text f → Page t page

-- what is printed for an answer
abbrev pub answer_text : Option Refusal → List Vehicle → List ℕ
answer_text None vs = order_text vs
answer_text (Some f) vs = refusal_text f

-- what the text is decides the page
pub record Printed (t page : List ℕ) : Type 0 where
  pub long : 65535 < length t → page ≡ codes "too long" ++ 10 ∷ []
  pub breaks : length t ≤ 65535 → (f : Refusal) → Broken t f → page ≡ refusal_text f
  pub lists : length t ≤ 65535 → (is : List Item) → AllByRecursion IsLine is → t ≡ list_text is → page ≡ answer_text (refusal_of_list is) (vehicles_in is)
