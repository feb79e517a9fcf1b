-- The rule for names.
use Rattle.std.specs.Prelude.{◌≡◌, ℕ, ◌-◌, ◌≤◌, Bool, cond, ◌&&◌, List, [], ◌∷◌, ◌++◌, length, replicate, ◌==◌, nat_le}
use Rattle.std.specs.List.{AllByRecursion, list_all}
use Rattle.std.specs.Str.{bytes_eq}

-- from 20 to 7E hex
abbrev pub printable : ℕ → Bool
printable b = nat_le 32 b && nat_le b 126

abbrev pub every : {A : Type 0} → (A → Bool) → List A → Bool
every good xs = list_all good xs

-- a text, filled up with zero bytes to sixteen
abbrev pub padded : List ℕ → List ℕ
padded text = text ++ replicate (16 - length text) 0

-- the bytes in front of the first zero byte
abbrev pub text_of : List ℕ → List ℕ
text_of [] = []
text_of (b ∷ bs) = cond (b == 0) [] (b ∷ text_of bs)

-- 1 to 15 printable bytes
abbrev pub name_text : List ℕ → Bool
name_text text = (nat_le 1 (length text) && nat_le (length text) 15) && every printable text

abbrev pub well_formed : List ℕ → Bool
well_formed bs = name_text (text_of bs) && bytes_eq bs (padded (text_of bs))

-- the rule in its own words: 1 to 15 bytes from 20 to 7E hex, then zero bytes, sixteen in all
pub record IsName (bs : List ℕ) : Type 0 where
  pub text : List ℕ
  pub some : 1 ≤ length text
  pub few : length text ≤ 15
  pub printed : AllByRecursion (λ b. (32 ≤ b) × (b ≤ 126)) text
  pub whole : bs ≡ padded text
