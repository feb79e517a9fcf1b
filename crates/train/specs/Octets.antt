-- Strings of bytes, compared by the first byte that differs.
use Rattle.std.specs.Prelude.{◌≡◌, ℕ, ◌+◌, ◌*◌, Bool, true, false, cond, ◌⊎◌, List, [], ◌∷◌, replicate, ◌==◌, ◌≢◌, nat_lt, slice_index}
use Rattle.std.specs.declared.cmp.Ordering.TheVariants.{Less, Equal, Greater}
use Rattle.std.specs.declared.cmp.Ordering.{Ordering}
use Rattle.std.specs.Str.{bytes_eq}

-- a stands below b: at the first byte that differs it has the lesser, or it ends there
abbrev pub below : List ℕ → List ℕ → Bool
below [] [] = false
below [] (y ∷ ys) = true
below (x ∷ xs) [] = false
below (x ∷ xs) (y ∷ ys) = cond (x == y) (below xs ys) (nat_lt x y)

abbrev pub ranked : List ℕ → List ℕ → Ordering
ranked a b = cond (bytes_eq a b) Equal (cond (below a b) Less Greater)

-- sixteen zero bytes
abbrev pub zeros : List ℕ
zeros = replicate 16 0

-- the last eight of sixteen bytes, as a number
abbrev pub tail_of : List ℕ → ℕ
tail_of bs =
    slice_index bs 8 * 72057594037927936 + slice_index bs 9 * 281474976710656 + slice_index bs 10 * 1099511627776 + slice_index bs 11 * 4294967296
    + slice_index bs 12 * 16777216 + slice_index bs 13 * 65536 + slice_index bs 14 * 256 + slice_index bs 15

-- the order is total, transitive and antisymmetric
pub record OrderLaws : Type 0 where
  pub total : (a b : List ℕ) → (below a b ≡ true) ⊎ ((a ≡ b) ⊎ (below b a ≡ true))
  pub transitive : (a b c : List ℕ) → below a b ≡ true → below b c ≡ true → below a c ≡ true
  pub antisymmetric : (a b : List ℕ) → below a b ≡ true → below b a ≡ false
  pub strict : (a b : List ℕ) → below a b ≡ true → a ≢ b
