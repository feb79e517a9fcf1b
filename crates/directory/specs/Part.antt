-- The leading-end part, cut from written bytes.
use Rattle.std.specs.Prelude.{ℕ, zero, suc, ◌+◌, ◌*◌, ◌≤◌, List, [], ◌∷◌, ◌++◌, length, take, drop, slice_index}

-- what stands behind n rows of k bytes
abbrev pub behind : ℕ → ℕ → List ℕ → List ℕ
behind k zero bs = bs
behind k (suc n) bs = behind k n (drop k bs)

-- what stands behind a count and so many rows of k bytes
abbrev pub past : ℕ → List ℕ → List ℕ
past k bs = behind k (slice_index bs 0) (drop 1 bs)

-- n rows, each of `a` bytes, one byte that is left out, and `b` bytes
abbrev pub thinned : ℕ → ℕ → ℕ → List ℕ → List ℕ
thinned a b zero bs = []
thinned a b (suc n) bs = take a bs ++ (take b (drop 1 (drop a bs)) ++ thinned a b n (drop b (drop 1 (drop a bs))))

-- a count and so many rows, each without one byte
abbrev pub thin_section : ℕ → ℕ → List ℕ → List ℕ
thin_section a b bs = slice_index bs 0 ∷ thinned a b (slice_index bs 0) (drop 1 bs)

-- from the operational consists on, and from the operational vehicles on
abbrev pub consists : List ℕ → List ℕ
consists bs = past 24 (drop 16 bs)

abbrev pub vehicles : List ℕ → List ℕ
vehicles bs = past 20 (consists bs)

-- byte 3 and the two operational sections, each entry without its train number
abbrev pub leading_part : List ℕ → List ℕ
leading_part bs = slice_index bs 3 ∷ (thin_section 18 1 (consists bs) ++ thin_section 19 4 (vehicles bs))

-- a count stands at the front, and behind it so many rows of k bytes
abbrev pub Section : ℕ → List ℕ → Type 0
Section k bs = 1 + k * slice_index bs 0 ≤ length bs

-- behind sixteen bytes, three sections
pub record Sections (bs : List ℕ) : Type 0 where
  pub header : 16 ≤ length bs
  pub trains : Section 24 (drop 16 bs)
  pub consists : Section 20 (consists bs)
  pub vehicles : Section 24 (vehicles bs)
