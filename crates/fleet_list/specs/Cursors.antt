-- What a reader does to the cursor that is lent to it.
use Rattle.std.specs.Prelude.{◌≡◌, ℕ, ◌+◌, ◌<◌, List, length, slice_index, Some, None, Ok, Err, Option, Result, ◌≢◌}
use Rattle.train.specs.declared.refusal.Refusal.{Refusal}
use Rattle.fleet_list.specs.declared.cursor.Cursor.{Cursor}
use Rattle.fleet_list.specs.Forms.{Answer, fault}

-- the same text and line
pub record Stays (c d : Cursor) : Type 0 where
  pub text : d.text.now ≡ c.text.now
  pub line : d.line ≡ c.line

-- the cursor stands at this byte
pub record IsAt (b : ℕ) (c : Cursor) : Type 0 where
  pub more : c.at < length c.text.now
  pub byte : slice_index c.text.now c.at ≡ b

-- a value with the place past it
abbrev pub placed : {R : Type 0} → Result R Refusal → ℕ → Result (R × ℕ) Refusal
placed (Ok r) end = Ok (r, end)
placed (Err f) end = Err f

-- A form is read from where the cursor stood, and it stands past what is read; or the text breaks. `of` is the value that
-- is meant by what the reader answers. After a refusal the cursor stands anywhere in its text.
pub record Takes {V R : Type 0} (Good : V → Type 0) (print : V → List ℕ) (of : R → V) (c d : Cursor) (r : Result R Refusal) : Type 0 where
  pub stays : Stays c d
  pub answer : Answer Good print of c.text.now c.at c.line (placed r d.at)

-- where the cursor goes, by the byte of which `post` says what it makes
abbrev pub OnByte : {R : Type 0} → (ℕ → Option R → Type 0) → Cursor → Cursor → Result R Refusal → Type 0
OnByte post c d (Ok r) = (c.at < length c.text.now) × post (slice_index c.text.now c.at) (Some r) × (d.at ≡ c.at + 1)
OnByte post c d (Err f) = (f ≡ fault c.line (c.at + 1)) × (c.at < length c.text.now → post (slice_index c.text.now c.at) None)

-- one byte that makes a value; or none is there, or it makes none
pub record TakesOne {R : Type 0} (post : ℕ → Option R → Type 0) (c d : Cursor) (r : Result R Refusal) : Type 0 where
  pub stays : Stays c d
  pub answer : OnByte post c d r

-- the value is nothing but this byte
abbrev pub Exactly : ℕ → ℕ → Option (Unit {0}) → Type 0
Exactly b x (Some u) = x ≡ b
Exactly b x None = x ≢ b
