-- Exporting a book: the checks of its bytes and of the buffer, and what the call answers.
use Rattle.std.specs.Prelude.{◌≡◌, ℕ, List, [], ◌∷◌, ◌++◌, length, Some, None, Ok, Err, Result}
use Rattle.train.specs.Refusals.{Check, refusal}
use Rattle.train.specs.declared.refusal.Part.TheVariants.{Book}
use Rattle.train.specs.declared.refusal.Refusal.{Refusal}
use Rattle.fleet.specs.Books.{Item, IsBook, book_checks, fleet_of}
use Rattle.fleet_list.specs.Imports.{room_for}
use Rattle.fleet_list.specs.Lists.{list_text}
use Rattle.fleet_list.specs.Writes.{Written}

-- all that opening checks, and then the room for the list
abbrev pub export_checks : List ℕ → ℕ → List Check
export_checks book room = book_checks book ++ (room_for (length (list_text (fleet_of book))) room ∷ [])

-- the list of this fleet at the front of the buffer; how many bytes and lines it has
pub record Listing (is : List Item) (before : List ℕ) (r : ℕ × ℕ) (after : List ℕ) : Type 0 where
  pub wrote : Written (list_text is) before r.0 after
  pub lines : r.1 ≡ length is

abbrev pub Exported : List ℕ → List ℕ → List ℕ → Result (ℕ × ℕ) Refusal → Type 0
Exported book before after (Ok r) = (refusal Book (export_checks book (length before)) ≡ None) × IsBook book (fleet_of book) × Listing (fleet_of book) before r after
Exported book before after (Err f) = (refusal Book (export_checks book (length before)) ≡ Some f) × (after ≡ before)

-- what becomes of consists in the tables
abbrev pub Shown : List Item → List ℕ → List ℕ → Result (ℕ × ℕ) Refusal → Type 0
Shown is before after (Ok r) = (refusal Book (room_for (length (list_text is)) (length before) ∷ []) ≡ None) × Listing is before r after
Shown is before after (Err f) = (refusal Book (room_for (length (list_text is)) (length before) ∷ []) ≡ Some f) × (after ≡ before)
