-- What an opened book means is lawful.
use Rattle.std.specs.Prelude.{◌≡◌, ℕ, ◌*◌, false, List, length, is_some}
use Rattle.std.proofs.Common.{sym, ap, ap₂, ◌∙◌, arith}
use Rattle.train.specs.declared.identity.Identity.{Identity}
use Rattle.train.specs.declared.refusal.Part.TheVariants.{Book as InBook}
use Rattle.train.specs.Refusals.{refusal}
use Rattle.fleet.specs.declared.book.Book.{Book}
use Rattle.fleet.specs.Fleets.{Lawful}
use Rattle.fleet.specs.Books.{count_of, entries_of, total_of, table_of, consist_rows, vehicle_rows, meaning_of}
use Rattle.fleet.specs.Entries.{length-rows}
use Rattle.fleet.specs.Held.{held}
use Rattle.fleet.specs.Rows.{entry_checks}
use Rattle.fleet.specs.Whole.{rows_lawful}

pub book_lawful : (b : Book) (id : Identity) → Lawful (meaning_of (held b) id)
book_lawful b id =
    let bs = b.bytes.now in
    let l : length (entries_of bs) ≡ count_of bs * 21 = omega (arith, b.long) in
    let t : length (table_of bs) ≡ total_of bs * 17 = omega (arith, b.tall) in
    let n : length b.vehicles.now ≡ total_of bs = ap length b.listed ∙ length-rows 17 (total_of bs) (table_of bs) in
    let s : is_some (refusal InBook (entry_checks (consist_rows bs) (total_of bs) (vehicle_rows bs))) ≡ false =
    sym (ap₂ (λ (es vs : List (List ℕ)). is_some (refusal InBook (entry_checks es (length b.vehicles.now) vs))) b.parted b.listed
    ∙ ap (λ (k : ℕ). is_some (refusal InBook (entry_checks (consist_rows bs) k (vehicle_rows bs)))) n) ∙ b.sound in
    rows_lawful (entries_of bs) (table_of bs) (count_of bs) (total_of bs) l t b.octets s id
