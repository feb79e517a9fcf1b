-- One call undoes the other.
use Rattle.std.specs.Prelude.{◌≡◌, ℕ, ◌<◌, ◌⊎◌, List, length, Ok, Err, Result}
use Rattle.train.specs.declared.refusal.Part.{Part}
use Rattle.train.specs.declared.refusal.Part.TheVariants.{Text, Book}
use Rattle.train.specs.declared.refusal.Place.TheVariants.{At}
use Rattle.train.specs.declared.refusal.Reason.TheVariants.{BufferShort}
use Rattle.train.specs.declared.refusal.Refusal.{Refusal}
use Rattle.fleet.specs.Books.{IsBook, fleet_of}
use Rattle.fleet_list.specs.Exports.{Exported, Listing}
use Rattle.fleet_list.specs.Imports.{Carried, Imported}
use Rattle.fleet_list.specs.Writes.{Written}

-- the buffer is too short for these bytes
abbrev pub TooShort : Part → List ℕ → List ℕ → Refusal → Type 0
TooShort part bytes before f = (length before < length bytes) × (f ≡ record { part = part; reason = BufferShort; place = At (length bytes) })

-- A list, its book, and the list of that book, which is the first again byte for byte. It is refused where import refuses
-- it, or where there is no room for it.
abbrev pub ListTrip : (text book book' back back' : List ℕ) → Result (ℕ × ℕ) Refusal → Type 0
ListTrip text book book' back back' (Ok r) = Carried text book r.0 book' × Written text back r.1 back'
ListTrip text book book' back back' (Err f) = (back' ≡ back) × (Imported text book book' (Err f) ⊎ ((n : ℕ) × Carried text book n book' × TooShort Book text back f))

-- A book, its list, and the book of that list, which is the first again byte for byte. It is refused where export refuses
-- it, or where there is no room for it.
abbrev pub BookTrip : (book text text' back back' : List ℕ) → Result (ℕ × ℕ) Refusal → Type 0
BookTrip book text text' back back' (Ok r) = IsBook book (fleet_of book) × ((lines : ℕ) × Listing (fleet_of book) text (r.0, lines) text') × Written book back r.1 back'
BookTrip book text text' back back' (Err f) = (back' ≡ back) × (Exported book text text' (Err f) ⊎ (((n : ℕ × ℕ) × Listing (fleet_of book) text n text') × TooShort Text book back f))
