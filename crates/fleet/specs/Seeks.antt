-- The first place in a list, counted from n, at which a test holds.
use Rattle.std.specs.Prelude.{ℕ, Bool, List, Option}
use Rattle.std.specs.List.{position_from}
use Rattle.std.specs.Str.{bytes_eq}
use Rattle.fleet.specs.Rows.{identity_of}

abbrev pub find : {A : Type 0} → (A → Bool) → ℕ → List A → Option ℕ
find test n xs = position_from test n xs

-- a row has this identity
abbrev pub is_at : List ℕ → List ℕ → Bool
is_at id row = bytes_eq (identity_of row) id

-- the first of these rows with an identity
abbrev pub place_of : List ℕ → ℕ → List (List ℕ) → Option ℕ
place_of id n rows = find (is_at id) n rows
