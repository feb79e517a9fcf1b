-- Rows compared without one byte of each.
use Rattle.std.proofs.Common.{◌≡◌, ℕ, zero, suc, ◌+◌, ◌*◌, ◌≤◌, Bool, true, false, ◌&&◌, eqb, List, [], ◌∷◌, ◌++◌, length, get_or, take, drop, sym, refl, ap, ◌∙◌, ap₂, mul-zero, mul-suc, arith, length-append}
use mathlib.Core.Bool.{and_assoc}
use Rattle.std.specs.Str.{bytes_eq}
use Rattle.std.proofs.lemmas.List.{drop-drop, length-drop, length-take-le}
use Rattle.std.proofs.lemmas.Bool.{eqb-true}
use Rattle.directory.specs.Part.{behind, past, thinned, thin_section, consists, vehicles, leading_part, Section, Sections}

pub behind_drop : (k n : ℕ) (bs : List ℕ) → behind k n bs ≡ drop (k * n) bs
behind_drop k zero bs = ap (λ z. drop z bs) (sym (mul-zero k))
behind_drop k (suc n) bs =
    behind_drop k n (drop k bs) ∙ drop-drop (k * n) k bs ∙ ap (λ z. drop z bs) (let e = mul-suc k n in omega arith)

pub past_drop : (k : ℕ) (bs : List ℕ) → past k bs ≡ drop (1 + k * get_or bs 0 0) bs
past_drop k bs = behind_drop k (get_or bs 0 0) (drop 1 bs) ∙ drop-drop (k * get_or bs 0 0) 1 bs

-- lists of one length in front of others
pub same_append : (a b s t : List ℕ) → length a ≡ length b → bytes_eq (a ++ s) (b ++ t) ≡ (bytes_eq a b && bytes_eq s t)
same_append [] [] s t e = refl
same_append [] (y ∷ b) s t e = absurd (omega arith)
same_append (x ∷ a) [] s t e = absurd (omega arith)
same_append (x ∷ a) (y ∷ b) s t e =
    ap (λ z. eqb x y && z) (same_append a b s t (omega arith)) ∙ sym (and_assoc (eqb x y) (bytes_eq a b) (bytes_eq s t))

module _ (a b : ℕ) where
  abbrev size : ℕ
  size = a + 1 + b

  -- a row, and the rows behind it

  row_behind : (n : ℕ) (bs : List ℕ) → thinned a b (suc n) bs ≡ take a bs ++ (take b (drop (a + 1) bs) ++ thinned a b n (drop size bs))
  row_behind n bs =
      let e : drop 1 (drop a bs) ≡ drop (a + 1) bs = drop-drop 1 a bs in
      let f : drop b (drop 1 (drop a bs)) ≡ drop size bs = ap (drop b) e ∙ drop-drop b (a + 1) bs in
      ap₂ (λ u v. take a bs ++ (take b u ++ thinned a b n v)) e f

  abbrev pub same_row : List ℕ → List ℕ → Bool
  same_row l r = bytes_eq (take a l) (take a r) && bytes_eq (take b (drop (a + 1) l)) (take b (drop (a + 1) r))

  same_first : (n : ℕ) (l r : List ℕ) → size ≤ length l → size ≤ length r
      → bytes_eq (thinned a b (suc n) l) (thinned a b (suc n) r) ≡ (same_row l r && bytes_eq (thinned a b n (drop size l)) (thinned a b n (drop size r)))
  same_first n l r h g =
      let one : length (take a l) ≡ length (take a r) = length-take-le a l (omega arith) ∙ sym (length-take-le a r (omega arith)) in
      let dl = length-drop (a + 1) l in
      let dr = length-drop (a + 1) r in
      let two : length (take b (drop (a + 1) l)) ≡ length (take b (drop (a + 1) r)) =
      length-take-le b (drop (a + 1) l) (omega arith) ∙ sym (length-take-le b (drop (a + 1) r) (omega arith)) in
      ap₂ bytes_eq (row_behind n l) (row_behind n r)
      ∙ same_append (take a l) (take a r) _ _ one
      ∙ ap (λ z. bytes_eq (take a l) (take a r) && z) (same_append (take b (drop (a + 1) l)) (take b (drop (a + 1) r)) _ _ two)
      ∙ sym (and_assoc (bytes_eq (take a l) (take a r)) (bytes_eq (take b (drop (a + 1) l)) (take b (drop (a + 1) r))) _)

  -- so many rows are left, and the first of them decides or leaves it to the others
  pub rows_on : (m n : ℕ) (l r : List ℕ) (x : Bool) → m ≡ suc n → size * m ≤ length l → size * m ≤ length r → x ≡ same_row l r
      → bytes_eq (thinned a b m l) (thinned a b m r) ≡ (x && bytes_eq (thinned a b n (drop size l)) (thinned a b n (drop size r)))
  rows_on m n l r x e h g s =
      let z = ap (λ (k : ℕ). size * k) e in
      ap (λ (k : ℕ). bytes_eq (thinned a b k l) (thinned a b k r)) e
      ∙ same_first n l r (omega (arith, z)) (omega (arith, z))
      ∙ ap (λ y. y && bytes_eq (thinned a b n (drop size l)) (thinned a b n (drop size r))) (sym s)

  pub rows_left : (m n : ℕ) (bs : List ℕ) → m ≡ suc n → size * m ≤ length bs → size * n ≤ length (drop size bs)
  rows_left m n bs e h =
      let z = ap (λ (k : ℕ). size * k) e in
      let d = length-drop size bs in
      omega (arith, z, d)

  pub thin_long : (n : ℕ) (bs : List ℕ) → size * n ≤ length bs → length (thinned a b n bs) ≡ (a + b) * n
  thin_long zero bs h = sym (mul-zero (a + b))
  thin_long (suc n) bs h =
      let e = mul-suc size n in
      let f = mul-suc (a + b) n in
      let d = length-drop size bs in
      let c = length-drop (a + 1) bs in
      let rest = thin_long n (drop size bs) (omega arith) in
      let one = length-take-le a bs (omega arith) in
      let two = length-take-le b (drop (a + 1) bs) (omega arith) in
      ap length (row_behind n bs) ∙ simp length-append (omega arith)

-- a section in front of another
section-append : (j k : ℕ) (a b s t : List ℕ) → (j ≡ k → length a ≡ length b) → bytes_eq (j ∷ (a ++ s)) (k ∷ (b ++ t)) ≡ (bytes_eq (j ∷ a) (k ∷ b) && bytes_eq s t)
section-append j k a b s t h = by (eqb j k) refl
  where
    by : (e : Bool) → eqb j k ≡ e → (eqb j k && bytes_eq (a ++ s) (b ++ t)) ≡ ((eqb j k && bytes_eq a b) && bytes_eq s t)
    by true e = ap₂ (λ u v. u && v) e (same_append a b s t (h (eqb-true j k e))) ∙ sym (ap (λ u. (u && bytes_eq a b) && bytes_eq s t) e)
    by false e = ap (λ u. u && bytes_eq (a ++ s) (b ++ t)) e ∙ sym (ap (λ u. (u && bytes_eq a b) && bytes_eq s t) e)

rows_long : (bs : List ℕ) → Section 20 bs → length (thinned 18 1 (get_or bs 0 0) (drop 1 bs)) ≡ 19 * get_or bs 0 0
rows_long bs h = let d = length-drop 1 bs in thin_long 18 1 (get_or bs 0 0) (drop 1 bs) (omega arith)

-- the parts of two leading ends
pub leading_same : (l r : List ℕ) → Sections l → Sections r
    → bytes_eq (leading_part l) (leading_part r)
    ≡ (eqb (get_or l 3 0) (get_or r 3 0) && (bytes_eq (thin_section 18 1 (consists l)) (thin_section 18 1 (consists r)) && bytes_eq (thin_section 19 4 (vehicles l)) (thin_section 19 4 (vehicles r))))
leading_same l r h g =
    ap (λ z. eqb (get_or l 3 0) (get_or r 3 0) && z)
    (section-append (get_or (consists l) 0 0) (get_or (consists r) 0 0) _ _ (thin_section 19 4 (vehicles l)) (thin_section 19 4 (vehicles r))
    (λ e. rows_long (consists l) h.consists ∙ ap (λ n. 19 * n) e ∙ sym (rows_long (consists r) g.consists)))
