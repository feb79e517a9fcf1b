-- The coach order of a fleet list: what the call answers, and what it lays out.
use Rattle.std.specs.Prelude.{◌≡◌, ℕ, ◌⊎◌, List, map, Some, None, Ok, Err, Result}
use Rattle.std.specs.List.{AllByRecursion}
use Rattle.train.specs.declared.entries.Vehicle.{Vehicle}
use Rattle.train.specs.declared.refusal.Part.TheVariants.{Text}
use Rattle.train.specs.declared.refusal.Refusal.{Refusal}
use Rattle.train.specs.Refusals.{or_else, refusal, refusal_of}
use Rattle.fleet.specs.Books.{Item, IsFleet, meaning_of, vehicles_in}
use Rattle.fleet_list.specs.Imports.{Unmet, list_checks}
use Rattle.fleet_list.specs.Lists.{IsLine, list_text}
use Rattle.fleet_list.specs.Readings.{Broken}
use Rattle.directory.specs.Operation.{operational}
use Rattle.directory.specs.Written.{Written}
use Rattle.coach_order.specs.Orders.{facts_of, uncoupled, vehicle_of}
use Rattle.coach_order.specs.Plain.{refusal_of_list}

-- the text is the list of this fleet
pub record Lists (t : List ℕ) (is : List Item) : Type 0 where
  pub lines : AllByRecursion IsLine is
  pub fleet : IsFleet is
  pub text : t ≡ list_text is

-- The vehicles of all consists of the list, one after another. That is the order in which the composition has them.
pub record IsOrder (t : List ℕ) (vehicles : List Vehicle) : Type 0 where
  pub items : List Item
  pub list : Lists t items
  pub coupled : uncoupled items ≡ None
  pub composed : map vehicle_of (operational (facts_of items) (meaning_of items)) ≡ vehicles_in items
  pub order : vehicles ≡ vehicles_in items

-- the order is laid out at the front
pub record Laid (t : List ℕ) (before : List Vehicle) (n : ℕ) (after : List Vehicle) : Type 0 where
  pub vehicles : List Vehicle
  pub order : IsOrder t vehicles
  pub wrote : Written vehicles before n after

-- the consists of the list cannot be coupled in this order
pub record Uncoupled (t : List ℕ) (f : Refusal) : Type 0 where
  pub items : List Item
  pub list : Lists t items
  pub refused : uncoupled items ≡ Some f

-- Import refuses the text, as a line that breaks or by a check of its lines (a full book has 38206 bytes); or else its
-- consists cannot be coupled.
abbrev pub Refused : List ℕ → Refusal → Type 0
Refused t f = Broken t f ⊎ (Unmet t 38206 f ⊎ Uncoupled t f)

-- where the list is refused, nothing is laid out
abbrev pub Ordered : List ℕ → List Vehicle → List Vehicle → Result ℕ Refusal → Type 0
Ordered t before after (Ok n) = Laid t before n after
Ordered t before after (Err f) = (after ≡ before) × Refused t f

-- Every text breaks at one place, or is the list of some lines; what it is decides the answer: import's refusal, or else
-- that of inaugurate, or else that of compose. The same in plain words.
pub record Decided {A : Type 0} (t : List ℕ) (r : Result A Refusal) : Type 0 where
  pub breaks : (f : Refusal) → Broken t f → refusal_of r ≡ Some f
  pub lists : (is : List Item) → AllByRecursion IsLine is → t ≡ list_text is → refusal_of r ≡ or_else (refusal Text (list_checks is 38206)) (uncoupled is)
  pub plain : (is : List Item) → AllByRecursion IsLine is → t ≡ list_text is → refusal_of r ≡ refusal_of_list is
