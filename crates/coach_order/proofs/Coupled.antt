-- The consists of a book, asked for one by one.
use Rattle.std.proofs.Common.{◌≡◌, ℕ, zero, suc, ◌+◌, ◌<◌, ◌≤◌, List, [], ◌∷◌, ◌++◌, map, length, take, get_or, Some, None, sym, ap, ap₂, ◌∙◌, add-one, arith}
use Rattle.std.specs.List.{slice_get}
use Rattle.std.proofs.lemmas.List.{map_more, take_all}
use Rattle.train.specs.declared.entries.Coupled.{Coupled}
use Rattle.train.specs.declared.facing.Facing.TheVariants.{Direct}
use Rattle.train.specs.declared.identity.Identity.{Identity}
use Rattle.fleet.specs.Books.{Item}
use Rattle.fleet.specs.Consists.{identity_in, identity_at}
use Rattle.coach_order.specs.Orders.{direct, formation_of}

some_item : Identity → Item
some_item x = record { identity = x; consist = record { counter = 0; vehicles = [] } }

next : (is : List Item) (k : ℕ) → identity_at is (k + 1) ≡ identity_in (slice_get is k)
next is k = rw add-one

there : (is : List Item) (k : ℕ) (x : Identity) (d : Item) → identity_in (slice_get is k) ≡ Some x → (k < length is) × (x ≡ (get_or is k d).identity)
there [] k x d e = let z : ◌≡◌ {A = ℕ} 0 1 = cc in absurd (omega arith)
there (i ∷ is) zero x d e = (omega arith, cc)
there (i ∷ is) (suc k) x d e = let r = there is k x d e in (omega (arith, r.0), r.1)

gone : (is : List Item) (k : ℕ) → identity_in (slice_get is k) ≡ None → length is ≤ k
gone [] k e = omega arith
gone (i ∷ is) zero e = let z : ◌≡◌ {A = ℕ} 0 1 = cc in absurd (omega arith)
gone (i ∷ is) (suc k) e = let r = gone is k e in omega arith

-- the first k consists are coupled, and the book is asked for one more
pub record Coupling (is : List Item) (es : List Coupled) : Type 0 where
  pub few : length es ≤ length is
  pub first : es ≡ map direct (take (length es) is)

module _ {is : List Item} {es : List Coupled} (h : Coupling is es) (k : ℕ) (e : k ≡ length es) where
  asked : identity_at is (k + 1) ≡ identity_in (slice_get is (length es))
  asked = next is k ∙ ap (λ j. identity_in (slice_get is j)) e

  pub coupling_here : (x : Identity) → Some x ≡ identity_at is (k + 1) → length es < length is
  coupling_here x s = (there is (length es) x (some_item x) (sym asked ∙ sym s)).0

  pub coupling_more : (x : Identity) (fs : List Coupled) → Some x ≡ identity_at is (k + 1) → fs ≡ es ++ (record { identity = x; facing = Direct } ∷ []) → length fs ≡ length es + 1 → Coupling is fs
  coupling_more x fs s f l =
      let (here, is_here) = there is (length es) x (some_item x) (sym asked ∙ sym s) in
      record {
        few = omega arith;
        first =
            f ∙ ap₂ (λ (a : List Coupled) (y : Identity). a ++ (record { identity = y; facing = Direct } ∷ [])) h.first is_here
            ∙ sym (map_more direct is (length es) (some_item x) here) ∙ ap (λ j. map direct (take j is)) (sym l);
      }

  pub coupling_all : None ≡ identity_at is (k + 1) → es ≡ formation_of is
  coupling_all s = let g = gone is (length es) (sym asked ∙ sym s) in h.first ∙ ap (map direct) (take_all (length es) is g)
