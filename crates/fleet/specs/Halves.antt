-- A search in rows whose identities rise.
use Rattle.std.specs.Prelude.{◌≡◌, ℕ, zero, suc, ◌+◌, ◌<◌, ◌≤◌, Bool, true, false, cond, not, List, [], ◌∷◌, ◌++◌, length, Some, None, Ok, Err, Result, ◌≢◌, slice_index_or, refl}
use Rattle.std.proofs.Common.{sym, ap, subst, ◌∙◌, inl, inr, arith}
use Rattle.std.specs.List.{AllByRecursion}
use Rattle.std.specs.Str.{bytes_eq}
use Rattle.std.proofs.ByRecursion.{All-get_or, All-from_get_or, All-weaker}
use Rattle.std.proofs.lemmas.Slice.Eq.{bytes_eq-Decides}
use Rattle.std.proofs.lemmas.Bool.{and_parts, and_from, not-true, cases_eq, cases_lt, cases_Bool}
use Rattle.std.proofs.lemmas.Bool.Decides.{not_from_Decides}
use Rattle.std.specs.List.Sorted.{IsNonDecreasingBy, IsBinarySearchResult, IsSearchInRange}
use Rattle.std.specs.Ordering.{ordering_index}
use Rattle.std.specs.Result.{result_ok}
use Rattle.std.specs.declared.cmp.Ordering.{Ordering}
use Rattle.std.specs.declared.cmp.Ordering.TheVariants.{Less, Equal, Greater}
use Rattle.train.specs.Octets.{below, ranked, zeros}
use Rattle.train.specs.Refusals.{keeps}
use Rattle.train.proofs.Bytes.{nowhere, below_trans, below_strict, below_total}
use Rattle.fleet.specs.Fleets.{Pairs}
use Rattle.fleet.specs.Rows.{identity_of, rises, last_identity, ascending}
use Rattle.fleet.specs.Seeks.{find, is_at, place_of}
use Rattle.fleet.specs.Entries.{last_added}

pub same_self : (a : List ℕ) → bytes_eq a a ≡ true
same_self a = (bytes_eq-Decides a a).1 refl

-- byte strings that differ are told apart, and the other way round
pub differ : (a b : List ℕ) → (a ≢ b) → bytes_eq a b ≡ false
differ a b n = elim (cases_Bool (bytes_eq a b)) [ inl e ↦ absurd (n ((bytes_eq-Decides a b).0 e)) | inr e ↦ e ]

pub differs : (a b : List ℕ) → bytes_eq a b ≡ false → a ≢ b
differs a b e = not_from_Decides (bytes_eq a b) (bytes_eq-Decides a b) e

pub below_apart : (a b : List ℕ) → below a b ≡ true → bytes_eq a b ≡ false
below_apart a b h = differ a b (below_strict a b h)

pub above_apart : (a b : List ℕ) → below a b ≡ true → bytes_eq b a ≡ false
above_apart a b h = differ b a (λ e. below_strict a b h (sym e))

-- neither below nor the same is above
pub below_other : (a b : List ℕ) → below a b ≡ false → bytes_eq a b ≡ false → below b a ≡ true
below_other a b h s =
    elim (below_total a b) [
      | inl k ↦ nowhere (sym h ∙ k)
      | inr r ↦ elim r [ inl e ↦ absurd (differs a b s e) | inr k ↦ k ]
    ]

-- the relation of two rows
abbrev pub Under : List ℕ → List ℕ → Type 0
Under x y = below (identity_of x) (identity_of y) ≡ true

-- rows that ascend are above all before, and are no zeros
pub record Ascent (prior : List ℕ) (rs : List (List ℕ)) : Type 0 where
  pub above : AllByRecursion (λ r. below prior (identity_of r) ≡ true) rs
  pub pairs : Pairs Under rs
  pub real : AllByRecursion (λ r. bytes_eq (identity_of r) zeros ≡ false) rs

pub ascent : (before rs : List (List ℕ)) → keeps ascending before rs ≡ true → Ascent (last_identity before) rs
ascent before [] e = record { above = tt; pairs = tt; real = tt }
ascent before (r ∷ rs) e =
    let t = and_parts (rises (last_identity before) (identity_of r)) (keeps ascending (before ++ r ∷ []) rs) e in
    let u = and_parts (not (bytes_eq (identity_of r) zeros)) (below (last_identity before) (identity_of r)) t.0 in
    let rest = moved (last_added before r) (ascent (before ++ r ∷ []) rs t.1) in
    record {
      above = (u.1, All-weaker (λ x. below (identity_of r) (identity_of x) ≡ true) (λ x. below (last_identity before) (identity_of x) ≡ true) (λ x h. below_trans (last_identity before) (identity_of r) (identity_of x) u.1 h) rs rest.above);
      pairs = (rest.above, rest.pairs);
      real = (not-true (bytes_eq (identity_of r) zeros) u.0, rest.real);
    }
  where
    moved : {p q : List ℕ} {rs : List (List ℕ)} → p ≡ q → Ascent p rs → Ascent q rs
    moved {p} {q} {rs} e h = subst (λ (x : List ℕ). Ascent x rs) e h

-- and the other way round
pub ascends : (before rs : List (List ℕ)) → AllByRecursion (λ r. below (last_identity before) (identity_of r) ≡ true) rs → Pairs Under rs → AllByRecursion (λ r. bytes_eq (identity_of r) zeros ≡ false) rs → keeps ascending before rs ≡ true
ascends before [] a p z = refl
ascends before (r ∷ rs) a p z =
    let n : not (bytes_eq (identity_of r) zeros) ≡ true = ap not z.0 in
    let e = last_added before r in
    let b : AllByRecursion (λ x. below (last_identity (before ++ r ∷ [])) (identity_of x) ≡ true) rs = subst (λ (q : List ℕ). AllByRecursion (λ x. below q (identity_of x) ≡ true) rs) (sym e) p.0 in
    and_from _ _ (and_from _ _ n a.0) (ascends (before ++ r ∷ []) rs b p.1 z.1)

pub pair_at : {A : Type 0} (R : A → A → Type 0) (xs : List A) (d : A) (i j : ℕ) → Pairs R xs → i < j → j < length xs → R (slice_index_or xs i d) (slice_index_or xs j d)
pair_at R [] d i j p l h = absurd (omega arith)
pair_at R (x ∷ xs) d i zero p l h = absurd (omega arith)
pair_at R (x ∷ xs) d zero (suc j) p l h = All-get_or (R x) xs j d (omega arith) p.0
pair_at R (x ∷ xs) d (suc i) (suc j) p l h = pair_at R xs d i j p.1 (omega arith) (omega arith)

-- the first place, by what holds at each
pub find_at : {A : Type 0} (p : A → Bool) (n : ℕ) (xs : List A) (k : ℕ) (d : A) → k < length xs → ((j : ℕ) → j < k → p (slice_index_or xs j d) ≡ false) → p (slice_index_or xs k d) ≡ true → find p n xs ≡ Some (n + k)
find_at p n [] k d h f e = absurd (omega arith)
find_at p n (x ∷ xs) zero d h f e = let z : n ≡ n + 0 = omega arith in rw e (ap (λ (m : ℕ). Some m) z)
find_at p n (x ∷ xs) (suc k) d h f e =
    let a = f 0 (omega arith) in
    let z : n + 1 + k ≡ n + suc k = omega arith in
    rw a (find_at p (n + 1) xs k d (omega arith) (λ j l. f (suc j) (omega arith)) e ∙ ap (λ (m : ℕ). Some m) z)

pub find_no : {A : Type 0} (p : A → Bool) (n : ℕ) (xs : List A) → AllByRecursion (λ x. p x ≡ false) xs → find p n xs ≡ None
find_no p n [] h = refl
find_no p n (x ∷ xs) h = let e = h.0 in rw e (find_no p (n + 1) xs h.1)

-- how an identity ranks, and the other way round
ranked_less : (a id : List ℕ) → below a id ≡ true → ranked a id ≡ Less
ranked_less a id h = let d = below_apart a id h in rw (d, h) refl

rank_of : (a id : List ℕ) (s l : Bool) → bytes_eq a id ≡ s → below a id ≡ l → ranked a id ≡ cond s Equal (cond l Less Greater)
rank_of a id s l e f = rw (e, f) refl

-- a rank tells one byte string from another
is_equal : (a id : List ℕ) (s l : Bool) → bytes_eq a id ≡ s → below a id ≡ l → ranked a id ≡ Equal → bytes_eq a id ≡ true
is_equal a id true l e f h = e
is_equal a id false true e f h = let k = sym (rank_of a id false true e f) ∙ h in let z : ◌≡◌ {A = ℕ} 0 1 = ap ordering_index k in absurd (omega (arith, z))
is_equal a id false false e f h = let k = sym (rank_of a id false false e f) ∙ h in let z : ◌≡◌ {A = ℕ} 2 1 = ap ordering_index k in absurd (omega (arith, z))

is_less : (a id : List ℕ) (s l : Bool) → bytes_eq a id ≡ s → below a id ≡ l → ranked a id ≡ Less → below a id ≡ true
is_less a id s true e f h = f
is_less a id true false e f h = let k = sym (rank_of a id true false e f) ∙ h in let z : ◌≡◌ {A = ℕ} 1 0 = ap ordering_index k in absurd (omega (arith, z))
is_less a id false false e f h = let k = sym (rank_of a id false false e f) ∙ h in let z : ◌≡◌ {A = ℕ} 2 0 = ap ordering_index k in absurd (omega (arith, z))

is_greater : (a id : List ℕ) (s l : Bool) → bytes_eq a id ≡ s → below a id ≡ l → ranked a id ≡ Greater → below id a ≡ true
is_greater a id false false e f h = below_other a id f e
is_greater a id true l e f h = let k = sym (rank_of a id true l e f) ∙ h in let z : ◌≡◌ {A = ℕ} 1 2 = ap ordering_index k in absurd (omega (arith, z))
is_greater a id false true e f h = let k = sym (rank_of a id false true e f) ∙ h in let z : ◌≡◌ {A = ℕ} 0 2 = ap ordering_index k in absurd (omega (arith, z))

index_small : (o : Ordering) → ordering_index o ≤ 2
index_small Less = omega arith
index_small Equal = omega arith
index_small Greater = omega arith

-- the rank of one above is no lower
rank_rises : (a b id : List ℕ) (s l : Bool) → bytes_eq b id ≡ s → below b id ≡ l → below a b ≡ true → ordering_index (ranked a id) ≤ ordering_index (ranked b id)
rank_rises a b id s true e f h = let z = ap ordering_index (ranked_less a id (below_trans a b id h f)) in omega (arith, z)
rank_rises a b id true false e f h =
    let q : b ≡ id = (bytes_eq-Decides b id).0 e in
    let z = ap ordering_index (ranked_less a id (ap (below a) (sym q) ∙ h)) in
    omega (arith, z)
rank_rises a b id false false e f h =
    let z = ap ordering_index (rank_of b id false false e f) in
    let y = index_small (ranked a id) in
    omega (arith, z, y)

-- a search in rows that ascend
module _ (rs : List (List ℕ)) (id : List ℕ) (e : keeps ascending [] rs ≡ true) where
  pair : (i j : ℕ) → i < j → j < length rs → below (identity_of (slice_index_or rs i [])) (identity_of (slice_index_or rs j [])) ≡ true
  pair i j l h = pair_at Under rs [] i j (ascent [] rs e).pairs l h

  pub half_up : (m : ℕ) → m < length rs → below (identity_of (slice_index_or rs m [])) id ≡ true → (j : ℕ) → j < m + 1 → below (identity_of (slice_index_or rs j [])) id ≡ true
  half_up m h k j l =
      elim (cases_eq j m) [
        | inl q ↦ ap (λ (x : ℕ). below (identity_of (slice_index_or rs x [])) id) q ∙ k
        | inr q ↦ below_trans (identity_of (slice_index_or rs j [])) (identity_of (slice_index_or rs m [])) id (pair j m (omega arith) h) k
      ]

  pub half_down : (m : ℕ) → m < length rs → below (identity_of (slice_index_or rs m [])) id ≡ false → is_at id (slice_index_or rs m []) ≡ false → (j : ℕ) → m ≤ j → j < length rs → below id (identity_of (slice_index_or rs j [])) ≡ true
  half_down m h k s j l b =
      let g = below_other (identity_of (slice_index_or rs m [])) id k s in
      elim (cases_eq j m) [
        | inl q ↦ ap (λ (x : ℕ). below id (identity_of (slice_index_or rs x []))) q ∙ g
        | inr q ↦ below_trans id (identity_of (slice_index_or rs m [])) (identity_of (slice_index_or rs j [])) g (pair m j (omega arith) b)
      ]

  pub half_hit : (m : ℕ) → m < length rs → is_at id (slice_index_or rs m []) ≡ true → place_of id 0 rs ≡ Some m
  half_hit m h s =
      let q : identity_of (slice_index_or rs m []) ≡ id = (bytes_eq-Decides (identity_of (slice_index_or rs m [])) id).0 s in
      let f : (j : ℕ) → j < m → is_at id (slice_index_or rs j []) ≡ false =
      λ j l. ap (bytes_eq (identity_of (slice_index_or rs j []))) (sym q) ∙ below_apart (identity_of (slice_index_or rs j [])) (identity_of (slice_index_or rs m [])) (pair j m l h) in
      let z : 0 + m ≡ m = omega arith in
      find_at (is_at id) 0 rs m [] h f s ∙ ap (λ (x : ℕ). Some x) z

  pub half_none : (lo hi : ℕ) → hi ≤ lo → ((j : ℕ) → j < lo → below (identity_of (slice_index_or rs j [])) id ≡ true) → ((j : ℕ) → hi ≤ j → j < length rs → below id (identity_of (slice_index_or rs j [])) ≡ true) → place_of id 0 rs ≡ None
  half_none lo hi o f g =
      find_no (is_at id) 0 rs (All-from_get_or (λ x. is_at id x ≡ false) rs []
      (λ j l. elim (cases_lt j lo) [
        | inl a ↦ below_apart (identity_of (slice_index_or rs j [])) id (f j a)
        | inr a ↦ above_apart id (identity_of (slice_index_or rs j [])) (g j (omega arith) l)
      ]))

  rises_on : IsNonDecreasingBy (λ row. ordering_index (ranked (identity_of row) id)) rs
  rises_on i j d h l =
      elim (cases_eq i j) [
        | inl k ↦ let z = ap (λ (n : ℕ). ordering_index (ranked (identity_of (slice_index_or rs n d)) id)) k in omega (arith, z)
        | inr k ↦ rank_rises (identity_of (slice_index_or rs i d)) (identity_of (slice_index_or rs j d)) id _ _ refl refl (pair_at Under rs d i j (ascent [] rs e).pairs (omega arith) l)
      ]

  pub searched : (r : Result ℕ ℕ) → IsSearchInRange r (length rs) → IsBinarySearchResult (λ row. ranked (identity_of row) id) rs r → result_ok r ≡ place_of id 0 rs
  searched (Ok i) bound h = sym (half_hit i bound (is_equal (identity_of (slice_index_or rs i [])) id _ _ refl refl (h [])))
  searched (Err i) bound h =
      let p = h rises_on in
      sym (half_none i i (omega arith) (λ j l. is_less (identity_of (slice_index_or rs j [])) id _ _ refl refl (p.0 j [] (omega arith) l))
      (λ j a b. is_greater (identity_of (slice_index_or rs j [])) id _ _ refl refl (p.1 j [] a b)))
