-- Rows one behind another.
use Rattle.std.proofs.Common.{◌≡◌, ℕ, suc, ◌+◌, ◌*◌, ◌<◌, List, [], ◌∷◌, ◌++◌, map, length, get_or, take, sym, refl, ap, ◌∙◌, append_assoc, mul-one, mul-add, arith}
use Rattle.std.proofs.lemmas.List.{take_more, append-nil, length-take-le}
use Rattle.directory.specs.Sections.{rows}

module _ {A : Type 0} (row : ℕ → A → List ℕ) where
  pub rows_push : (n : ℕ) (xs : List A) (x : A) → rows row n (xs ++ x ∷ []) ≡ rows row n xs ++ row (n + length xs) x
  rows_push n [] x = let z : n + 0 ≡ n = omega arith in append-nil (row n x) ∙ ap (λ k. row k x) (sym z)
  rows_push n (y ∷ ys) x =
      let z : n + 1 + length ys ≡ n + suc (length ys) = omega arith in
      ap (λ bs. row n y ++ bs) (rows_push (n + 1) ys x) ∙ sym (append_assoc (row n y) (rows row (n + 1) ys) (row (n + 1 + length ys) x))
      ∙ ap (λ k. (row n y ++ rows row (n + 1) ys) ++ row k x) z

  pub rows_more : (xs : List A) (i : ℕ) (x d : A) → x ≡ get_or xs i d → i < length xs → rows row 1 (take i xs) ++ row (i + 1) x ≡ rows row 1 (take (i + 1) xs)
  rows_more xs i x d is h =
      let z : 1 + length (take i xs) ≡ i + 1 = ap (λ k. 1 + k) (length-take-le i xs (omega arith)) ∙ omega arith in
      sym (ap (rows row 1) (take_more xs i d h ∙ ap (λ y. take i xs ++ y ∷ []) (sym is)) ∙ rows_push 1 (take i xs) x ∙ ap (λ k. rows row 1 (take i xs) ++ row k x) z)

pub rows-map : {A B : Type 0} (row : ℕ → B → List ℕ) (other : ℕ → A → List ℕ) (f : A → B) → ((n : ℕ) (x : A) → row n (f x) ≡ other n x)
    → (n : ℕ) (xs : List A) → rows row n (map f xs) ≡ rows other n xs
rows-map row other f h n [] = refl
rows-map row other f h n (x ∷ xs) = ap (λ bs. bs ++ rows row (n + 1) (map f xs)) (h n x) ∙ ap (λ bs. other n x ++ bs) (rows-map row other f h (n + 1) xs)

-- the room that i rows of one size take
pub times_more : (size i : ℕ) → size * (i + 1) ≡ size * i + size
times_more size i = mul-add size i 1 ∙ ap (λ k. size * i + k) (mul-one size)

-- the last eight bytes of a vehicle's row
pub eight : (n k r a b d x y z : ℕ) → a ≡ x → b ≡ y → d ≡ z → n ∷ a ∷ b ∷ k ∷ d ∷ r ∷ 0 ∷ 0 ∷ [] ≡ n ∷ x ∷ y ∷ k ∷ z ∷ r ∷ 0 ∷ 0 ∷ []
eight n k r a b d x y z p q s = cc
