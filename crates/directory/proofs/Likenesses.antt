-- Two answers, compared.
use Rattle.std.proofs.Common.{◌≡◌, ℕ, ◌-◌, ◌≤◌, Bool, true, false, ◌&&◌, List, length, take, IfOk, Some, Ok, Err, Decides, Result, sym, refl, ap, ◌∙◌, subst, arith}
use Rattle.std.specs.Str.{bytes_eq}
use Rattle.std.proofs.lemmas.Slice.Eq.{bytes_eq-Decides}
use Rattle.train.specs.declared.refusal.Refusal.{Refusal}
use Rattle.directory.specs.declared.comparing.Likeness.{Likeness}
use Rattle.directory.specs.Compared.{seen, Answered, ends_of, Ends, IsLikeness, Likened}
use Rattle.directory.specs.Law.{IsFleet, Side, Led}
use Rattle.directory.specs.Part.{leading_part, Sections}
use Rattle.directory.proofs.Behind.{same_length}
use Rattle.directory.proofs.Sides.{sections_of}

untrue : {X : Type 0} → false ≡ true → X
untrue e = let z : ◌≡◌ {A = ℕ} 0 1 = cc in absurd (omega arith)

module _ (l r : Side) (b c : List ℕ) where
  -- the leading ends are compared where both sides are led
  ends_told : (x y : Bool) → Decides x (Led l) → Decides y (Led r) → (s : Bool) → s ≡ bytes_eq (leading_part b) (leading_part c) → Ends l r b c (ends_of (x && y) s)
  ends_told true true p q true e = (p.0 refl, q.0 refl, (bytes_eq-Decides (leading_part b) (leading_part c)).0 (sym e))
  ends_told true true p q false e = (p.0 refl, q.0 refl, λ z. untrue (e ∙ (bytes_eq-Decides (leading_part b) (leading_part c)).1 z))
  ends_told true false p q s e = λ w. untrue (q.1 w.1)
  ends_told false y p q s e = λ w. untrue (p.1 w.0)

  pub likeness_told : (k : Likeness) (x y : Bool) → Decides x (Led l) → Decides y (Led r) → k.same ≡ bytes_eq b c
      → k.ends ≡ ends_of (x && y) (bytes_eq (leading_part b) (leading_part c)) → IsLikeness l r b c k
  likeness_told k x y p q e f =
      record {
        same = subst (λ z. Decides z (b ≡ c)) (sym e) (bytes_eq-Decides b c);
        ends = subst (Ends l r b c) (sym f) (ends_told x y p q _ refl);
      }

-- a part from the start
pub front : (n : ℕ) (xs : List ℕ) → take (n - 0) xs ≡ take n xs
front n xs = let e : n - 0 ≡ n = omega arith in ap (λ k. take k xs) e

pub both_written : (l r : Side) (a d : Result ℕ Refusal) (n m : ℕ) (after other : List ℕ) (k : Likeness) → a ≡ Ok n → d ≡ Ok m
    → IsLikeness l r (take n after) (take m other) k → Likened l r (seen a after) (seen d other) (Some k)
both_written l r a d n m after other k e f h =
    subst (λ z. Likened l r (seen z after) (seen d other) (Some k)) (sym e) (subst (λ z. Likened l r (seen (Ok n) after) (seen z other) (Some k)) (sym f) h)

-- what an answer wrote has its three sections
pub whole : (s : Side) → IsFleet s.fleet → (r : Result ℕ Refusal) (before after : List ℕ) → Answered s r before after
    → IfOk r (λ n. (n ≤ length after) × Sections (take n after))
whole s m (Ok n) before after a =
    let w = a.buffer.fits in
    let e = same_length a.buffer in
    (omega arith, sections_of s m (take n after) (sym a.outcome))
whole s m (Err x) before after a = tt
