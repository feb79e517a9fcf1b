-- Lists that are turned.
use Rattle.std.proofs.Common.{◌≡◌, List, [], ◌∷◌, ◌++◌, map, reverse, length, sym, refl, ap, ◌∙◌, append_assoc, append-nil}
use mathlib.Core.List.{reverse-cons}
use Rattle.std.proofs.lemmas.List.{map-append, length-reverse, length-map}
use Rattle.std.specs.List.{flat_map, AllByRecursion}
use Rattle.train.specs.declared.facing.Facing.{Facing}
use Rattle.train.specs.declared.facing.Facing.TheVariants.{NotKnown, Direct, Inverse}
use Rattle.train.specs.Facings.{opposite}
use Rattle.train.specs.Turning.{turned_list}
use Rattle.train.proofs.Turns.{turned_twice, turned_joined}
use Rattle.directory.specs.Cars.{met}
use Rattle.directory.proofs.Vocabulary.{Known}

pub reverse-map : {X Y : Type 0} (f : X → Y) (xs : List X) → reverse (map f xs) ≡ map f (reverse xs)
reverse-map f [] = refl
reverse-map f (x ∷ xs) =
    reverse-cons (f x) (map f xs) ∙ ap (λ r. r ++ f x ∷ []) (reverse-map f xs) ∙ sym (map-append f (reverse xs) (x ∷ [])) ∙ ap (map f) (sym (reverse-cons x xs))

pub map_same : {X : Type 0} (f : X → X) → ((x : X) → f x ≡ x) → (xs : List X) → map f xs ≡ xs
map_same f h [] = refl
map_same f h (x ∷ xs) = rw (h x, map_same f h xs)

pub joined-append : {X Y : Type 0} (f : X → List Y) (xs ys : List X) → flat_map f (xs ++ ys) ≡ flat_map f xs ++ flat_map f ys
joined-append f [] ys = refl
joined-append f (x ∷ xs) ys = ap (λ r. f x ++ r) (joined-append f xs ys) ∙ sym (append_assoc (f x) (flat_map f xs) (flat_map f ys))

module _ {X : Type 0} (turn : X → X) where
  pub turned_cons : (x : X) (xs : List X) → turned_list turn (x ∷ xs) ≡ turned_list turn xs ++ turn x ∷ []
  turned_cons x xs = ap (map turn) (reverse-cons x xs) ∙ map-append turn (reverse xs) (x ∷ [])

  pub length_turned : (xs : List X) → length (turned_list turn xs) ≡ length xs
  length_turned xs = length-map (reverse xs) turn ∙ length-reverse xs

  -- a turned list, met from the other end
  pub met_turned : ((x : X) → turn (turn x) ≡ x) → (o : Facing) → Known o → (xs : List X) → met turn (opposite o) (turned_list turn xs) ≡ met turn o xs
  met_turned h NotKnown k xs = absurd k
  met_turned h Direct k xs = turned_twice turn h xs
  met_turned h Inverse k xs = refl

-- what each entry makes turns with it, so the whole turns
pub joined_turned : {X Y : Type 0} (turnX : X → X) (turnY : Y → Y) (f : X → List Y) (xs : List X) → AllByRecursion (λ x. f (turnX x) ≡ turned_list turnY (f x)) xs
    → flat_map f (turned_list turnX xs) ≡ turned_list turnY (flat_map f xs)
joined_turned turnX turnY f [] h = refl
joined_turned turnX turnY f (x ∷ xs) h =
    ap (flat_map f) (turned_cons turnX x xs)
    ∙ joined-append f (turned_list turnX xs) (turnX x ∷ [])
    ∙ ap (λ r. r ++ flat_map f (turnX x ∷ [])) (joined_turned turnX turnY f xs h.1)
    ∙ ap (λ r. turned_list turnY (flat_map f xs) ++ r) (append-nil (f (turnX x)) ∙ h.0)
    ∙ sym (turned_joined turnY (f x) (flat_map f xs))
