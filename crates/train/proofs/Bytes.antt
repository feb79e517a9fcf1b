-- The order of byte strings.
use Rattle.std.proofs.Common.{◌≡◌, ℕ, ◌<◌, Bool, true, false, cond, eqb, ltb, ◌⊎◌, List, [], ◌∷◌, sym, refl, ap, ◌∙◌, inl, inr, arith}
use Rattle.std.proofs.lemmas.Bool.{cases_eq, cases_lt}
use Rattle.std.proofs.lemmas.Bool.Decides.{nat_tests}
use Rattle.train.specs.Octets.{below, OrderLaws}

pub nowhere : {X : Type 0} → false ≡ true → X
nowhere e = let z : ◌≡◌ {A = ℕ} 0 1 = cc in absurd (omega arith)

-- one byte of the comparison
step : (x y : ℕ) (rest : Bool) → cond (eqb x y) rest (ltb x y) ≡ true → ((x ≡ y) × (rest ≡ true)) ⊎ (x < y)
step x y rest h = elim (cases_eq x y) [ inl e ↦ inl (e, grind (arith, nat_tests)) | inr n ↦ inr (grind (arith, nat_tests)) ]

same_byte : (x y : ℕ) (rest b : Bool) → x ≡ y → rest ≡ b → cond (eqb x y) rest (ltb x y) ≡ b
same_byte x y rest b e h = grind (arith, nat_tests)

less_byte : (x y : ℕ) (rest : Bool) → x < y → cond (eqb x y) rest (ltb x y) ≡ true
less_byte x y rest h = grind (arith, nat_tests)

more_byte : (x y : ℕ) (rest : Bool) → x < y → cond (eqb y x) rest (ltb y x) ≡ false
more_byte x y rest h = grind (arith, nat_tests)

pub below_trans : (a b c : List ℕ) → below a b ≡ true → below b c ≡ true → below a c ≡ true
below_trans [] [] c h k = nowhere h
below_trans [] (y ∷ ys) [] h k = nowhere k
below_trans [] (y ∷ ys) (z ∷ zs) h k = refl
below_trans (x ∷ xs) [] c h k = nowhere h
below_trans (x ∷ xs) (y ∷ ys) [] h k = nowhere k
below_trans (x ∷ xs) (y ∷ ys) (z ∷ zs) h k =
    elim (step x y (below xs ys) h) [
      | inl p ↦ elim (step y z (below ys zs) k) [
        | inl q ↦ same_byte x z (below xs zs) true (p.0 ∙ q.0) (below_trans xs ys zs p.1 q.1)
        | inr q ↦ let e = p.0 in less_byte x z (below xs zs) (omega arith)
      ]
      | inr p ↦ elim (step y z (below ys zs) k) [
        | inl q ↦ let e = q.0 in less_byte x z (below xs zs) (omega arith)
        | inr q ↦ less_byte x z (below xs zs) (omega arith)
      ]
    ]

pub below_anti : (a b : List ℕ) → below a b ≡ true → below b a ≡ false
below_anti [] [] h = refl
below_anti [] (y ∷ ys) h = refl
below_anti (x ∷ xs) [] h = nowhere h
below_anti (x ∷ xs) (y ∷ ys) h =
    elim (step x y (below xs ys) h) [
      | inl p ↦ same_byte y x (below ys xs) false (sym p.0) (below_anti xs ys p.1)
      | inr p ↦ more_byte x y (below ys xs) p
    ]

pub below_strict : (a b : List ℕ) → below a b ≡ true → a ≡ b → ⊥
below_strict a b h e = nowhere (sym (below_anti a b h) ∙ ap (λ x. below b x) e ∙ ap (λ x. below x b) (sym e) ∙ h)

pub below_total : (a b : List ℕ) → (below a b ≡ true) ⊎ ((a ≡ b) ⊎ (below b a ≡ true))
below_total [] [] = inr (inl refl)
below_total [] (y ∷ ys) = inl refl
below_total (x ∷ xs) [] = inr (inr refl)
below_total (x ∷ xs) (y ∷ ys) =
    elim (cases_eq x y) [
      | inl e ↦ elim (below_total xs ys) [
        | inl h ↦ inl (same_byte x y (below xs ys) true e h)
        | inr r ↦ elim r [
          | inl h ↦ inr (inl (cc))
          | inr h ↦ inr (inr (same_byte y x (below ys xs) true (sym e) h))
        ]
      ]
      | inr n ↦ elim (cases_lt x y) [
        | inl h ↦ inl (less_byte x y (below xs ys) h)
        | inr h ↦ inr (inr (less_byte y x (below ys xs) (omega arith)))
      ]
    ]

pub order_laws : OrderLaws
order_laws = record { total = below_total; transitive = below_trans; antisymmetric = below_anti; strict = below_strict }
