-- Rows laid end to end.
use Rattle.std.specs.Prelude.{◌≡◌, ℕ, zero, suc, ◌+◌, ◌*◌, ◌<◌, ◌≤◌, true, List, [], ◌∷◌, ◌++◌, length, take, drop, nat_lt, refl}
use Rattle.std.proofs.Common.{sym, ap, ap₂, ◌∙◌, arith, suc-mul}
use Rattle.std.specs.List.{AllByRecursion}
use Rattle.std.proofs.lemmas.List.{take-append-drop, take_at, drop_at, length-take-le, length-drop, length-append}
use Rattle.std.proofs.ByRecursion.{All-take, All-drop}
use Rattle.std.proofs.lemmas.Bool.{and_from, and_parts, lt-ltb, ltb-true}
use Rattle.fleet.specs.Books.{flat}
use Rattle.fleet.specs.Bytes.{Bytes, bytes_in}
use Rattle.fleet.specs.Rows.{rows}

module _ (w : ℕ) where
  pub rows_long : (n : ℕ) (bs : List ℕ) → n * w ≤ length bs → AllByRecursion (λ r. length r ≡ w) (rows w n bs)
  rows_long zero bs h = tt
  rows_long (suc n) bs h =
      let e : suc n * w ≡ n * w + w = suc-mul n w in
      let l = length-drop w bs in
      (length-take-le w bs (omega arith), rows_long n (drop w bs) (omega arith))

  pub rows_bytes : (n : ℕ) (bs : List ℕ) → Bytes bs → AllByRecursion Bytes (rows w n bs)
  rows_bytes zero bs h = tt
  rows_bytes (suc n) bs h = (All-take (λ b. b < 256) w bs h, rows_bytes n (drop w bs) (All-drop (λ b. b < 256) w bs h))

  nothing : (bs : List ℕ) → length bs ≡ 0 → [] ≡ bs
  nothing [] h = refl
  nothing (b ∷ bs) h = absurd (omega arith)

  pub rows_flat : (n : ℕ) (bs : List ℕ) → length bs ≡ n * w → flat (rows w n bs) ≡ bs
  rows_flat zero bs h = let z : 0 * w ≡ 0 = omega arith in nothing bs (h ∙ z)
  rows_flat (suc n) bs h =
      let e : suc n * w ≡ n * w + w = suc-mul n w in
      let l = length-drop w bs in
      ap (λ (x : List ℕ). take w bs ++ x) (rows_flat n (drop w bs) (omega arith)) ∙ take-append-drop w bs

  pub flat_rows : (rs : List (List ℕ)) → AllByRecursion (λ r. length r ≡ w) rs → rows w (length rs) (flat rs) ≡ rs
  flat_rows [] h = refl
  flat_rows (r ∷ rs) h =
      ap₂ (λ x y. x ∷ y) (take_at r (flat rs) w h.0) (ap (rows w (length rs)) (drop_at r (flat rs) w h.0) ∙ flat_rows rs h.1)

  pub length-flat : (rs : List (List ℕ)) → AllByRecursion (λ r. length r ≡ w) rs → length (flat rs) ≡ length rs * w
  length-flat [] h = let z : 0 * w ≡ 0 = omega arith in sym z
  length-flat (r ∷ rs) h =
      let e : suc (length rs) * w ≡ length rs * w + w = suc-mul (length rs) w in
      let l = length-append r (flat rs) in
      let k = length-flat rs h.1 in
      let g = h.0 in
      omega arith

-- bytes are below 256, as a test
pub bytes_told : (bs : List ℕ) → Bytes bs → bytes_in bs ≡ true
bytes_told [] h = refl
bytes_told (b ∷ bs) h = and_from (nat_lt b 256) (bytes_in bs) (lt-ltb b 256 h.0) (bytes_told bs h.1)

pub bytes_are : (bs : List ℕ) → bytes_in bs ≡ true → Bytes bs
bytes_are [] h = tt
bytes_are (b ∷ bs) h = let t = and_parts (nat_lt b 256) (bytes_in bs) h in (ltb-true b 256 t.0, bytes_are bs t.1)
