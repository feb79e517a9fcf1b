-- The place of a consist in a formation, and the claim that is kept there.
use Rattle.std.proofs.Common.{◌≡◌, ℕ, zero, suc, ◌+◌, ◌<◌, ◌≤◌, Bool, true, false, List, [], ◌∷◌, ◌++◌, length, get_or, take, set, replicate, cond, Some, None, Option, MatchOption, subst, sym, refl, ap, ◌∙◌, le_of_suc-le-suc, arith}
use mathlib.Core.Path.{fun_ext}
use Rattle.std.proofs.lemmas.List.{take_more}
use Rattle.std.proofs.lemmas.Iterator.Adapters.{position_from-zero}
use Rattle.std.specs.List.{position, position_from}
use Rattle.train.specs.declared.identity.Identity.{Identity}
use Rattle.train.specs.declared.entries.Coupled.{Coupled}
use Rattle.train.specs.Identities.{same_identity}
use Rattle.train.proofs.Bytes.{nowhere}
use Rattle.train.proofs.Equal.{same_identity_decides, same_identity_sym}
use Rattle.bench.specs.declared.claims.Claim.{Claim}
use Rattle.bench.specs.Facts.{coupled_in, put, Place}
use Rattle.bench.specs.Table.{kept}

in_push : (x : Identity) (es : List Coupled) (e : Coupled) → coupled_in x es ≡ false → same_identity x e.identity ≡ false → coupled_in x (es ++ e ∷ []) ≡ false
in_push x [] e h k = rw k
in_push x (d ∷ es) e h k = by (same_identity x d.identity) refl (λ g. in_push x es e g k)
  where
    by : (b : Bool) → same_identity x d.identity ≡ b → (coupled_in x es ≡ false → coupled_in x (es ++ e ∷ []) ≡ false) → coupled_in x ((d ∷ es) ++ e ∷ []) ≡ false
    by true q f = nowhere (sym (rw q at h))
    by false q f = rw q (f (rw q at h))

-- one entry more is not the consist's
pub in_more : (x : Identity) (es : List Coupled) (i : ℕ) (d : Coupled) → i < length es → same_identity x (get_or es i d).identity ≡ false
    → coupled_in x (take i es) ≡ false → coupled_in x (take (i + 1) es) ≡ false
in_more x es i d h k e = rw (take_more es i d) (in_push x (take i es) (get_or es i d) e k)

-- a consist with a place is in the formation
pub in_at : (x : Identity) (es : List Coupled) (i : ℕ) (d : Coupled) → i < length es → same_identity x (get_or es i d).identity ≡ true → coupled_in x es ≡ true
in_at x [] i d h k = absurd (omega arith)
in_at x (e ∷ es) zero d h k = rw k
in_at x (e ∷ es) (suc i) d h k = by (same_identity x e.identity) refl (in_at x es i d (le_of_suc-le-suc h) k)
  where
    by : (b : Bool) → same_identity x e.identity ≡ b → coupled_in x es ≡ true → coupled_in x (e ∷ es) ≡ true
    by true q r = rw q
    by false q r = rw q r

-- x is not at z where y is, so x is not y
other_false : (x y z : Identity) → same_identity x z ≡ false → same_identity y z ≡ true → same_identity x y ≡ false
other_false x y z p q = by (same_identity x y) refl
  where
    by : (b : Bool) → same_identity x y ≡ b → b ≡ false
    by true e = nowhere (sym p ∙ (same_identity_decides x z).1 ((same_identity_decides x y).0 e ∙ (same_identity_decides y z).0 q))
    by false e = refl

module _ (x : Identity) (c : Option Claim) (y : Identity) where
  here : (e : Coupled) (es : List Coupled) (s : Option Claim) (table : List (Option Claim)) → same_identity x e.identity ≡ true → (b : Bool) → same_identity y e.identity ≡ b → same_identity x y ≡ b
      → kept (e ∷ es) (c ∷ table) y ≡ put (kept (e ∷ es) (s ∷ table)) x c y
  here e es s table p true q r = rw (q, r)
  here e es s table p false q r = rw (q, r)

  there : (e : Coupled) (es : List Coupled) (s : Option Claim) (table other : List (Option Claim)) → same_identity x e.identity ≡ false
      → kept es other y ≡ put (kept es table) x c y → (b : Bool) → same_identity y e.identity ≡ b
      → kept (e ∷ es) (s ∷ other) y ≡ put (kept (e ∷ es) (s ∷ table)) x c y
  there e es s table other p r true q = rw (other_false x y e.identity p q, q)
  there e es s table other p r false q = rw q r

  -- a claim set at a consist's place alters that consist's claim and no other
  set_puts : (es : List Coupled) (table : List (Option Claim)) (i : ℕ) (d : Coupled) → i < length es → length es ≤ length table
      → same_identity x (get_or es i d).identity ≡ true → coupled_in x (take i es) ≡ false → kept es (set table i c) y ≡ put (kept es table) x c y
  set_puts [] table i d h l a f = absurd (omega arith)
  set_puts (e ∷ es) [] i d h l a f = absurd (omega arith)
  set_puts (e ∷ es) (s ∷ table) zero d h l a f =
      let r : same_identity x y ≡ same_identity y e.identity = ap (λ z. same_identity z y) ((same_identity_decides x e.identity).0 a) ∙ same_identity_sym e.identity y in
      here e es s table a (same_identity y e.identity) refl r
  set_puts (e ∷ es) (s ∷ table) (suc i) d h l a f =
      by (same_identity x e.identity) refl (λ g. set_puts es table i d (le_of_suc-le-suc h) (le_of_suc-le-suc l) a g)
    where
      by : (b : Bool) → same_identity x e.identity ≡ b → (coupled_in x (take i es) ≡ false → kept es (set table i c) y ≡ put (kept es table) x c y)
          → kept (e ∷ es) (s ∷ set table i c) y ≡ put (kept (e ∷ es) (s ∷ table)) x c y
      by true q r = nowhere (sym (rw q at f))
      by false q r = there e es s table (set table i c) q (r (rw q at f)) (same_identity y e.identity) refl

pub claims_put : (x : Identity) (c : Option Claim) (es : List Coupled) (table : List (Option Claim)) (i : ℕ) (d : Coupled) → i < length es → length es ≤ length table
    → same_identity x (get_or es i d).identity ≡ true → coupled_in x (take i es) ≡ false → kept es (set table i c) ≡ put (kept es table) x c
claims_put x c es table i d h l a f = fun_ext (λ y. set_puts x c y es table i d h l a f)

-- free places keep nothing
free_keeps : (n : ℕ) (es : List Coupled) (x : Identity) → kept es (replicate n None) x ≡ None
free_keeps n [] x = refl
free_keeps zero (e ∷ es) x = refl
free_keeps (suc n) (e ∷ es) x = by (same_identity x e.identity) refl (free_keeps n es x)
  where
    by : (b : Bool) → same_identity x e.identity ≡ b → kept es (replicate n None) x ≡ None → kept (e ∷ es) (None ∷ replicate n None) x ≡ None
    by true q r = rw q
    by false q r = rw q r

pub none_kept : (es : List Coupled) → kept es (replicate 63 None) ≡ (λ _. None)
none_kept es = fun_ext (free_keeps 63 es)

-- the claim that is kept for a consist stands at its place
pub kept_at : (x : Identity) (es : List Coupled) (table : List (Option Claim)) (i : ℕ) (d : Coupled) (k : Option Claim) → i < length es → length es ≤ length table
    → same_identity x (get_or es i d).identity ≡ true → coupled_in x (take i es) ≡ false → kept es table x ≡ get_or table i k
kept_at x [] table i d k h l a f = absurd (omega arith)
kept_at x (e ∷ es) [] i d k h l a f = absurd (omega arith)
kept_at x (e ∷ es) (s ∷ table) zero d k h l a f = rw a
kept_at x (e ∷ es) (s ∷ table) (suc i) d k h l a f =
    by (same_identity x e.identity) refl (λ g. kept_at x es table i d k (le_of_suc-le-suc h) (le_of_suc-le-suc l) a g)
  where
    by : (b : Bool) → same_identity x e.identity ≡ b → (coupled_in x (take i es) ≡ false → kept es table x ≡ get_or table i k) → kept (e ∷ es) (s ∷ table) x ≡ get_or table i k
    by true q r = nowhere (sym (rw q at f))
    by false q r = rw q (r (rw q at f))

pub kept_none : (x : Identity) (es : List Coupled) (table : List (Option Claim)) → coupled_in x es ≡ false → kept es table x ≡ None
kept_none x [] table f = refl
kept_none x (e ∷ es) [] f = refl
kept_none x (e ∷ es) (s ∷ table) f = by (same_identity x e.identity) refl (λ g. kept_none x es table g)
  where
    by : (b : Bool) → same_identity x e.identity ≡ b → (coupled_in x es ≡ false → kept es table x ≡ None) → kept (e ∷ es) (s ∷ table) x ≡ None
    by true q r = nowhere (sym (rw q at f))
    by false q r = rw q (r (rw q at f))

-- a search for a consist finds its place, or it is not in the formation
abbrev Found : Identity → List Coupled → ℕ → ℕ → Type 0
Found x es n k = (j : ℕ) × (k ≡ n + j) × Place x es j

module _ (x : Identity) where
  one_before : (e : Coupled) (es : List Coupled) (j : ℕ) → same_identity x e.identity ≡ false → Place x es j → Place x (e ∷ es) (suc j)
  one_before e es j q p = record { inside = omega (arith, p.inside); here = p.here; first = rw q p.first }

  further : (e : Coupled) (es : List Coupled) (n : ℕ) (o : Option ℕ) → same_identity x e.identity ≡ false → MatchOption o (coupled_in x es ≡ false) (Found x es (n + 1))
      → MatchOption o (coupled_in x (e ∷ es) ≡ false) (Found x (e ∷ es) n)
  further e es n None q h = rw q h
  further e es n (Some k) q (j, z, p) = (suc j, omega (arith, z), one_before e es j q p)

  here_or : (e : Coupled) (es : List Coupled) (n : ℕ) (b : Bool) (o : Option ℕ) → same_identity x e.identity ≡ b → MatchOption o (coupled_in x es ≡ false) (Found x es (n + 1))
      → MatchOption (cond b (Some n) o) (coupled_in x (e ∷ es) ≡ false) (Found x (e ∷ es) n)
  here_or e es n true o q h = (0, omega arith, record { inside = omega arith; here = q; first = refl })
  here_or e es n false o q h = further e es n o q h

  found_from : (es : List Coupled) (n : ℕ) → MatchOption (position_from (λ e. same_identity x e.identity) n es) (coupled_in x es ≡ false) (Found x es n)
  found_from [] n = refl
  found_from (e ∷ es) n = here_or e es n (same_identity x e.identity) (position_from (λ e. same_identity x e.identity) (n + 1) es) refl (found_from es (n + 1))

  pub found_place : (es : List Coupled) (o : Option ℕ) → o ≡ position (λ e. same_identity x e.identity) es → MatchOption o (coupled_in x es ≡ false) (λ i. Place x es i)
  found_place es o e = placed o (subst (λ o. MatchOption o (coupled_in x es ≡ false) (Found x es 0)) (sym (e ∙ position_from-zero (λ e. same_identity x e.identity) es)) (found_from es 0))
    where
      placed : (o : Option ℕ) → MatchOption o (coupled_in x es ≡ false) (Found x es 0) → MatchOption o (coupled_in x es ≡ false) (λ i. Place x es i)
      placed None h = h
      placed (Some k) (j, z, p) = let y : j ≡ k = omega (arith, z) in subst (Place x es) y p
