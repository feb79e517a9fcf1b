-- What export answers, from what becomes of the tables.
use Rattle.std.proofs.Common.{◌≡◌, ℕ, List, [], ◌∷◌, length, take, None, Ok, Err, Result, sym, ap, ◌∙◌, subst, ap₂}
use Rattle.train.specs.declared.entries.Vehicle.{Vehicle}
use Rattle.train.specs.declared.refusal.Part.TheVariants.{Book}
use Rattle.train.specs.declared.refusal.Refusal.{Refusal}
use Rattle.train.specs.Refusals.{refusal, or_else}
use Rattle.train.proofs.Rules.{refusal-joined}
use Rattle.fleet.specs.Books.{IsBook, book_checks, fleet_of}
use Rattle.fleet_list.specs.declared.tables.Head.{Head}
use Rattle.fleet_list.specs.Entries.{Loaded}
use Rattle.fleet_list.specs.Exports.{export_checks, Exported, Shown}
use Rattle.fleet_list.specs.Imports.{room_for}
use Rattle.fleet_list.specs.Lists.{list_text}
use Rattle.fleet_list.specs.Tables.{gathered}

-- behind checks that are met
pub behind_met : (book : List ℕ) (room : ℕ) → None ≡ refusal Book (book_checks book) → refusal Book (export_checks book room) ≡ refusal Book (room_for (length (list_text (fleet_of book))) room ∷ [])
behind_met book room e =
    refusal-joined Book (book_checks book) (room_for (length (list_text (fleet_of book))) room ∷ []) ∙ ap (λ o. or_else o (refusal Book (room_for (length (list_text (fleet_of book))) room ∷ []))) (sym e)

exported_by : (book before after : List ℕ) (r : Result (ℕ × ℕ) Refusal) → None ≡ refusal Book (book_checks book) → IsBook book (fleet_of book) → Shown (fleet_of book) before after r → Exported book before after r
exported_by book before after (Ok r) e b s = (behind_met book (length before) e ∙ s.0, b, s.1)
exported_by book before after (Err f) e b s = (behind_met book (length before) e ∙ s.0, s.1)

module _ (book : List ℕ) (heads : List Head) (vehicles : List Vehicle) (lines total : ℕ) (g : Loaded book heads vehicles lines total) (hs : List Head) (vs : List Vehicle) (eh : hs ≡ take lines heads) (ev : vs ≡ take total vehicles) where
  pub tables : gathered hs vs ≡ fleet_of book
  tables = ap₂ gathered eh ev ∙ g.items

  pub exported : (before after : List ℕ) (r : Result (ℕ × ℕ) Refusal) → None ≡ refusal Book (book_checks book) → IsBook book (fleet_of book) → Shown (gathered hs vs) before after r → Exported book before after r
  exported before after r e b s = exported_by book before after r e b (subst (λ z. Shown z before after r) tables s)
