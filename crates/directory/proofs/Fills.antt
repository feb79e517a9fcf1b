-- A table that is filled from its front, one element for each of a list.
use Rattle.std.proofs.Common.{◌≡◌, ℕ, ◌+◌, ◌-◌, ◌<◌, ◌≤◌, List, [], ◌∷◌, ◌++◌, map, length, get_or, take, drop, set, sym, refl, ap, ◌∙◌, ap₂, append_assoc, arith}
use borrow.Rule.Slice.PartMut.{post_of}
use Rattle.std.proofs.lemmas.List.{take_all, drop_more, map_more, length-map, length-take-le, set-append_right}
use Rattle.directory.specs.Written.{Written}

module _ {A B : Type 0} (f : A → B) (xs : List A) (before : List B) where
  pub filled_more : (i : ℕ) (now : List B) (d : A) (y : B) → now ≡ map f (take i xs) ++ drop i before → i < length xs → length xs ≤ length before → y ≡ f (get_or xs i d)
      → set now i y ≡ map f (take (i + 1) xs) ++ drop (i + 1) before
  filled_more i now d y e h room q =
      let long : length (map f (take i xs)) ≡ i = length-map (take i xs) f ∙ length-take-le i xs (omega arith) in
      let z : i - i ≡ 0 = omega arith in
      let le : i ≤ i = omega arith in
      ap (λ zs. set zs i y) e ∙ set-append_right (map f (take i xs)) (drop i before) i i y long le
      ∙ ap (λ k. map f (take i xs) ++ set (drop i before) k y) z
      ∙ ap (λ zs. map f (take i xs) ++ set zs 0 y) (drop_more before i y (omega arith))
      ∙ sym (append_assoc (map f (take i xs)) (y ∷ []) (drop (i + 1) before))
      ∙ ap (λ w. (map f (take i xs) ++ w ∷ []) ++ drop (i + 1) before) q
      ∙ ap (λ zs. zs ++ drop (i + 1) before) (sym (map_more f xs i d h))

  pub filled_all : (i n : ℕ) (now : List B) → now ≡ map f (take i xs) ++ drop i before → length xs ≤ i → i ≤ length xs → length xs ≤ length before → n ≡ length xs → Written (map f xs) before n now
  filled_all i n now e h h' room en =
      let same : i ≡ n = omega arith in
      record {
        wrote = e ∙ ap₂ (λ a b. map f a ++ b) (take_all i xs h) (ap (λ k. drop k before) same);
        long = length-map xs f ∙ sym en;
        fits = omega arith;
      }

-- a list copied to the front
pub copied : {A : Type 0} (xs before copy : List A) → copy ≡ xs → length xs ≤ length before → Written xs before (length xs) (copy ++ post_of 0 (length xs - 0) before)
copied xs before copy e h =
    let z : length xs - 0 ≡ length xs = omega arith in
    record { wrote = ap₂ (λ a b. a ++ b) e (ap (λ k. drop k before) z); long = refl; fits = h }
