-- Turning a list: the loop that does it in place, and its two laws.
use Rattle.std.proofs.Common.{◌≡◌, ℕ, zero, suc, ◌+◌, ◌<◌, ◌≤◌, List, [], ◌∷◌, ◌++◌, map, reverse, length, get_or, take, drop, set, sym, refl, ap, ◌∙◌, ap₂, le_of_suc-le-suc, not-suc-le-zero, add-one}
use mathlib.Core.List.{reverse_aux, map-append, reverse-append, reverse-reverse}
use Rattle.std.proofs.lemmas.List.{take_all, drop_all, append-nil}
use Rattle.train.specs.Turning.{turned_list}

module _ {A : Type 0} (f : A → A) where
  step : (xs : List A) (i : ℕ) (d y : A) → i < length xs → y ≡ f (get_or (map f (take i xs) ++ drop i xs) i d) → set (map f (take i xs) ++ drop i xs) i y ≡ map f (take (suc i) xs) ++ drop (suc i) xs
  step [] i d y h e = absurd (not-suc-le-zero h)
  step (x ∷ xs) zero d y h e = ap (λ z. z ∷ xs) e
  step (x ∷ xs) (suc i) d y h e = ap (λ z. f x ∷ z) (step xs i d y (le_of_suc-le-suc h) e)

  -- one entry more is turned: `ys` is the list as it stands
  pub turned_step : (ys xs : List A) (i : ℕ) (d y : A) → ys ≡ map f (take i xs) ++ drop i xs → i < length xs → y ≡ f (get_or ys i d) → set ys i y ≡ map f (take (i + 1) xs) ++ drop (i + 1) xs
  turned_step ys xs i d y s h e = rw (s, add-one) (step xs i d y h (rw s at e))

  pub turned_end : (ys xs : List A) (i : ℕ) → ys ≡ map f (take i xs) ++ drop i xs → length xs ≤ i → ys ≡ map f xs
  turned_end ys xs i s h = rw (take_all, drop_all, append-nil) at s

  map_reverse_aux : (xs ys : List A) → map f (reverse_aux xs ys) ≡ reverse_aux (map f xs) (map f ys)
  map_reverse_aux [] ys = refl
  map_reverse_aux (x ∷ xs) ys = map_reverse_aux xs (x ∷ ys)

  pub map-reverse : (xs : List A) → map f (reverse xs) ≡ reverse (map f xs)
  map-reverse xs = map_reverse_aux xs []

  map_twice : ((x : A) → f (f x) ≡ x) → (xs : List A) → map f (map f xs) ≡ xs
  map_twice h [] = refl
  map_twice h (x ∷ xs) = ap₂ (λ y ys. y ∷ ys) (h x) (map_twice h xs)

  pub turned_twice : ((x : A) → f (f x) ≡ x) → (xs : List A) → turned_list f (turned_list f xs) ≡ xs
  turned_twice h xs = ap (map f) (sym (map-reverse (reverse xs)) ∙ ap (map f) (reverse-reverse xs)) ∙ map_twice h xs

  pub turned_joined : (xs ys : List A) → turned_list f (xs ++ ys) ≡ turned_list f ys ++ turned_list f xs
  turned_joined xs ys = ap (map f) (reverse-append xs ys) ∙ map-append f (reverse ys) (reverse xs)
