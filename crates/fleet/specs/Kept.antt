-- Rules that every entry keeps, in the words of the entries.
use Rattle.std.specs.Prelude.{◌≡◌, ℕ, Bool, true, false, not, List, [], ◌∷◌, ◌++◌, map, ◌≢◌, refl}
use Rattle.std.proofs.Common.{sym, ap}
use Rattle.std.specs.List.{AllByRecursion}
use Rattle.std.specs.Str.{bytes_eq}
use Rattle.std.proofs.ByRecursion.{All-map}
use Rattle.std.proofs.lemmas.Bool.{and_parts, and_from, or_parts, or_from, not-true}
use Rattle.train.specs.Refusals.{keeps, alone, fresh, among, by}
use Rattle.fleet.specs.Fleets.{Pairs}
use Rattle.fleet.specs.Halves.{differ, differs}

module _ {A : Type 0} (good : A → Bool) where
  pub alone_all : (before xs : List A) → keeps (alone good) before xs ≡ true → AllByRecursion (λ x. good x ≡ true) xs
  alone_all before [] e = tt
  alone_all before (x ∷ xs) e =
      let t = and_parts (good x) (keeps (alone good) (before ++ x ∷ []) xs) e in
      (t.0, alone_all (before ++ x ∷ []) xs t.1)

  pub all_alone : (before xs : List A) → AllByRecursion (λ x. good x ≡ true) xs → keeps (alone good) before xs ≡ true
  all_alone before [] h = refl
  all_alone before (x ∷ xs) h = and_from _ _ h.0 (all_alone (before ++ x ∷ []) xs h.1)

module _ {A : Type 0} (label : A → List ℕ) where
  -- no label of these stands before
  abbrev Away : List A → List A → Type 0
  Away before xs = AllByRecursion (λ x. among (by bytes_eq label) x before ≡ false) xs

  split : (x y : A) (ys : List A) → among (by bytes_eq label) x (ys ++ y ∷ []) ≡ false → (among (by bytes_eq label) x ys ≡ false) × (bytes_eq (label x) (label y) ≡ false)
  split x y [] e = (refl, (or_parts (bytes_eq (label x) (label y)) false e).0)
  split x y (z ∷ zs) e =
      let t = or_parts (bytes_eq (label x) (label z)) _ e in
      let u = split x y zs t.1 in
      (or_from _ _ t.0 u.0, u.1)

  join : (x y : A) (ys : List A) → among (by bytes_eq label) x ys ≡ false → bytes_eq (label x) (label y) ≡ false → among (by bytes_eq label) x (ys ++ y ∷ []) ≡ false
  join x y [] e h = or_from _ _ h refl
  join x y (z ∷ zs) e h = let t = or_parts (bytes_eq (label x) (label z)) _ e in or_from _ _ t.0 (join x y zs t.1 h)

  leave : (y : A) (before xs : List A) → Away (before ++ y ∷ []) xs → Away before xs × AllByRecursion (λ x. label y ≢ label x) xs
  leave y before [] h = (tt, tt)
  leave y before (x ∷ xs) h =
      let t = split x y before h.0 in
      let u = leave y before xs h.1 in
      ((t.0, u.0), (λ e. differs (label x) (label y) t.1 (sym e), u.1))

  meet : (y : A) (before xs : List A) → Away before xs → AllByRecursion (λ x. label y ≢ label x) xs → Away (before ++ y ∷ []) xs
  meet y before [] h k = tt
  meet y before (x ∷ xs) h k = (join x y before h.0 (differ (label x) (label y) (λ e. k.0 (sym e))), meet y before xs h.1 k.1)

  fresh_away : (before xs : List A) → keeps (fresh (by bytes_eq label)) before xs ≡ true → Away before xs × Pairs (λ x y. label x ≢ label y) xs
  fresh_away before [] e = (tt, tt)
  fresh_away before (x ∷ xs) e =
      let t = and_parts (fresh (by bytes_eq label) before x) (keeps (fresh (by bytes_eq label)) (before ++ x ∷ []) xs) e in
      let u = fresh_away (before ++ x ∷ []) xs t.1 in
      let v = leave x before xs u.0 in
      ((not-true _ t.0, v.0), (v.1, u.1))

  -- no label stands twice
  pub fresh_pairs : (xs : List A) → keeps (fresh (by bytes_eq label)) [] xs ≡ true → Pairs (λ x y. label x ≢ label y) xs
  fresh_pairs xs e = (fresh_away [] xs e).1

  away_fresh : (before xs : List A) → Away before xs → Pairs (λ x y. label x ≢ label y) xs → keeps (fresh (by bytes_eq label)) before xs ≡ true
  away_fresh before [] h p = refl
  away_fresh before (x ∷ xs) h p =
      let n : not (among (by bytes_eq label) x before) ≡ true = ap not h.0 in
      and_from _ _ n (away_fresh (before ++ x ∷ []) xs (meet x before xs h.1 p.0) p.1)

  away_none : (xs : List A) → Away [] xs
  away_none [] = tt
  away_none (x ∷ xs) = (refl, away_none xs)

  pub pairs_fresh : (xs : List A) → Pairs (λ x y. label x ≢ label y) xs → keeps (fresh (by bytes_eq label)) [] xs ≡ true
  pairs_fresh xs p = away_fresh [] xs (away_none xs) p

module _ {A B : Type 0} (f : B → A) where
  pub all_unmapped : (P : A → Type 0) (ys : List B) → AllByRecursion P (map f ys) → AllByRecursion (λ y. P (f y)) ys
  all_unmapped P [] h = tt
  all_unmapped P (y ∷ ys) h = (h.0, all_unmapped P ys h.1)

  pub pairs_mapped : (R : A → A → Type 0) (ys : List B) → Pairs (λ x y. R (f x) (f y)) ys → Pairs R (map f ys)
  pairs_mapped R [] h = tt
  pairs_mapped R (y ∷ ys) h = (All-map (R (f y)) f ys h.0, pairs_mapped R ys h.1)

  pub pairs_unmapped : (R : A → A → Type 0) (ys : List B) → Pairs R (map f ys) → Pairs (λ x y. R (f x) (f y)) ys
  pairs_unmapped R [] h = tt
  pairs_unmapped R (y ∷ ys) h = (all_unmapped (R (f y)) ys h.0, pairs_unmapped R ys h.1)
