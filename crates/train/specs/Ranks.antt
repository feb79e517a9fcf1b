-- The order of byte strings, as the comparisons of std want it.
use Rattle.std.specs.Prelude.{◌≡◌, ℕ, Bool, true, false, cond, ◌&&◌, List, [], ◌∷◌, ◌==◌, nat_lt}
use Rattle.std.proofs.Common.{refl, sym, ap, ◌∙◌, ◌<◌, arith}
use Rattle.std.proofs.lemmas.Bool.{eqb-true, ltb-true}
use Rattle.std.proofs.lemmas.Map.Text.{is_eq-slice_cmp}
use Rattle.std.specs.declared.cmp.Ordering.TheVariants.{Less, Equal, Greater}
use Rattle.std.specs.declared.cmp.Ordering.{Ordering}
use Rattle.std.specs.Cmp.{IsTotalOrder}
use Rattle.std.specs.Cmp.Lexicographic.{slice_cmp, nat_list_cmp_total}
use Rattle.std.specs.Ordering.{ordering_then, nat_cmp, is_eq, eq_by_cmp}
use Rattle.std.specs.Str.{bytes_eq}
use Rattle.train.specs.Octets.{below, ranked}

module _ (x y : ℕ) (same less : Bool) (rest : Ordering) (e : cond same Equal (cond less Less Greater) ≡ rest) where
  first : (l q : Bool) → nat_lt x y ≡ l → (x == y) ≡ q → cond (q && same) Equal (cond (cond q less l) Less Greater) ≡ ordering_then (cond l Less (cond q Equal Greater)) rest
  first true true h k = let a : x < y = ltb-true x y h in let b : x ≡ y = eqb-true x y k in absurd (omega arith)
  first true false h k = refl
  first false true h k = e
  first false false h k = refl

-- it is the order in which std compares slices
pub ranked_is : (a b : List ℕ) → ranked a b ≡ slice_cmp nat_cmp a b
ranked_is [] [] = refl
ranked_is [] (y ∷ ys) = refl
ranked_is (x ∷ xs) [] = refl
ranked_is (x ∷ xs) (y ∷ ys) = first x y (bytes_eq xs ys) (below xs ys) (slice_cmp nat_cmp xs ys) (ranked_is xs ys) (nat_lt x y) (x == y) refl refl

pub ranked_total : IsTotalOrder ranked
ranked_total = record {
  antisymm = λ x y. rw (ranked_is x y, ranked_is y x) (nat_list_cmp_total.antisymm x y);
  trans = λ x y z p q. ranked_is x z ∙ nat_list_cmp_total.trans x y z (sym (ranked_is x y) ∙ p) (sym (ranked_is y z) ∙ q);
  congr = λ x y z p. ranked_is x z ∙ nat_list_cmp_total.congr x y z (sym (ranked_is x y) ∙ p) ∙ sym (ranked_is y z);
}

-- what it does not tell apart are the same bytes
pub ranked_ties : (a b : List ℕ) → bytes_eq a b ≡ eq_by_cmp ranked a b
ranked_ties a b = sym (ap is_eq (ranked_is a b) ∙ is_eq-slice_cmp a b)
