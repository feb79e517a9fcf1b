-- The calls on fleet lists and books.
use Rattle.std.specs.Prelude.{◌≡◌, ℕ, ◌⊎◌, List, length, Err, Result}
use Rattle.std.specs.List.{AllByRecursion}
use Rattle.train.specs.Refusals.{refusal}
use Rattle.train.specs.declared.refusal.Part.TheVariants.{Text, Book}
use Rattle.train.specs.declared.refusal.Refusal.{Refusal}
use Rattle.fleet.specs.Books.{Item, book_of, book_checks, fleet_of}
use Rattle.fleet_list.specs.Lists.{IsLine, list_text}
use Rattle.fleet_list.specs.Readings.{Broken}
use Rattle.fleet_list.specs.Imports.{Imported, Decided, list_checks}
use Rattle.fleet_list.specs.Exports.{Exported}
use Rattle.linkage.specs.declared.answer.Answer.{Answer}
use Rattle.linkage.specs.Told.{Tells, unlined, unless}

pub record ListImported (text before after : List ℕ) (status : ℕ) (a : Answer) : Type 0 where
  pub result : Result ℕ Refusal
  pub imported : Imported text before after result
  pub decided : Decided text before result
  pub told : Tells (unlined result) status a

pub record BookExported (book before after : List ℕ) (status : ℕ) (a : Answer) : Type 0 where
  pub result : Result (ℕ × ℕ) Refusal
  pub exported : Exported book before after result
  pub told : Tells result status a

-- importing these lines where there is room for their book: its length, or the refusal
abbrev pub lines_checked : List Item → Result ℕ Refusal
lines_checked is = unless (refusal Text (list_checks is (length (book_of is)))) (length (book_of is))

-- Every text breaks, or is a list; what it is decides the result.
pub record ListChecked (text : List ℕ) (status : ℕ) (a : Answer) : Type 0 where
  pub result : Result ℕ Refusal
  pub either : ((f : Refusal) × Broken text f) ⊎ ((is : List Item) × AllByRecursion IsLine is × (text ≡ list_text is))
  pub breaks : (f : Refusal) → Broken text f → result ≡ Err f
  pub lists : (is : List Item) → AllByRecursion IsLine is → text ≡ list_text is → result ≡ lines_checked is
  pub told : Tells (unlined result) status a

-- exporting a book where there is room for its list: the list's length, or the refusal
abbrev pub book_checked : List ℕ → Result ℕ Refusal
book_checked book = unless (refusal Book (book_checks book)) (length (list_text (fleet_of book)))
