-- Words of these proofs, and what the rules of the other crates say in them.
use Rattle.std.proofs.Common.{◌≡◌, ℕ, ◌+◌, ◌-◌, ◌≤◌, Bool, true, false, cond, not, ◌&&◌, ◌||◌, eqb, List, [], ◌∷◌, ◌++◌, map, length, replicate, refl, ap, ◌∙◌, arith}
use Rattle.std.specs.Str.{bytes_eq}
use Rattle.std.proofs.lemmas.List.{length-append, length-replicate}
use Rattle.std.proofs.lemmas.Bool.{and_parts, eqb-true, not-true}
use Rattle.train.specs.declared.facing.Facing.{Facing}
use Rattle.train.specs.declared.facing.Facing.TheVariants.{NotKnown, Direct, Inverse}
use Rattle.train.specs.declared.identity.Identity.{Identity}
use Rattle.train.specs.declared.entries.Coupled.{Coupled}
use Rattle.train.specs.Facings.{known}
use Rattle.train.specs.Identities.{is_identity, same_identity}
use Rattle.train.specs.Names.{every, well_formed, padded, IsName}
use Rattle.train.specs.Octets.{zeros}
use Rattle.train.specs.Refusals.{keeps, alone, among, fresh, by}
use Rattle.train.proofs.Names.{name_rule}
use Rattle.bench.specs.Facts.{coupled_in}

pub nowhere : {X : Type 0} → ◌≡◌ {A = ℕ} 0 1 → X
nowhere z = absurd (omega arith)

-- direct or inverse
abbrev pub Known : Facing → Type 0
Known NotKnown = ⊥
Known Direct = Unit {0}
Known Inverse = Unit {0}

pub known_is : (f : Facing) → known f ≡ true → Known f
known_is NotKnown e = nowhere (cc)
known_is Direct e = tt
known_is Inverse e = tt

abbrev pub Sixteen : List ℕ → Type 0
Sixteen bs = length bs ≡ 16

-- no consist's identity
abbrev pub blank : Identity → Bool
blank x = bytes_eq x.bytes zeros

abbrev pub identities : List Coupled → List Identity
identities = map (λ e. e.identity)

-- none stands twice
abbrev pub apart : {X : Type 0} → (X → X → Bool) → List X → Bool
apart same [] = true
apart same (x ∷ xs) = cond (among same x xs) false (apart same xs)

pub identity_rule : (x : Identity) → is_identity x.bytes ≡ true → Sixteen x.bytes × (blank x ≡ false)
identity_rule x e =
    let w = and_parts (eqb (length x.bytes) 16) (not (blank x)) e in
    (eqb-true (length x.bytes) 16 w.0, not-true (blank x) w.1)

pub name_long : (bs : List ℕ) → IsName bs → Sixteen bs
name_long bs n =
    let a : length bs ≡ length (padded n.text) = ap length n.whole in
    let b : length (padded n.text) ≡ length n.text + length (replicate {A = ℕ} (16 - length n.text) 0) = length-append n.text (replicate (16 - length n.text) 0) in
    let c : length (replicate {A = ℕ} (16 - length n.text) 0) ≡ 16 - length n.text = length-replicate (16 - length n.text) 0 in
    let d : length n.text ≤ 15 = n.few in
    omega (arith, a, b, c, d)

pub well_formed_long : (bs : List ℕ) → well_formed bs ≡ true → Sixteen bs
well_formed_long bs e = name_long bs ((name_rule bs).0 e)

-- a rule that looks at each entry alone
pub keeps_alone : {A : Type 0} (good : A → Bool) (before xs : List A) → keeps (alone good) before xs ≡ every good xs
keeps_alone good before [] = refl
keeps_alone good before (x ∷ xs) = ap (λ z. good x && z) (keeps_alone good (before ++ x ∷ []) xs)

pub among_push : {X : Type 0} (same : X → X → Bool) (x : X) (xs : List X) (y : X) → among same x (xs ++ y ∷ []) ≡ (same x y || among same x xs)
among_push same x [] y = refl
among_push same x (z ∷ xs) y = rw (among_push same x xs y) (swap (same x z) (same x y) (among same x xs))
  where
    swap : (a b c : Bool) → (a || (b || c)) ≡ (b || (a || c))
    swap true true c = refl
    swap true false c = refl
    swap false b c = refl

-- the rule that none is like one before it, and the list told apart
module _ {X : Type 0} (same : X → X → Bool) (symm : (x y : X) → same x y ≡ same y x) where
  abbrev free : List X → X → Bool
  free before x = not (among same x before)

  free_none : (xs : List X) → every (free []) xs ≡ true
  free_none [] = refl
  free_none (x ∷ xs) = free_none xs

  free_push : (before : List X) (x : X) (xs : List X) → every (free (before ++ x ∷ [])) xs ≡ (not (among same x xs) && every (free before) xs)
  free_push before x [] = refl
  free_push before x (y ∷ xs) =
      rw (free_push before x xs, among_push same y before x, symm y x)
      (mix (same x y) (among same y before) (among same x xs) (every (free before) xs))
    where
      mix : (a b c d : Bool) → (not (a || b) && (not c && d)) ≡ (not (a || c) && (not b && d))
      mix true b c d = refl
      mix false true true d = refl
      mix false true false d = refl
      mix false false c d = refl

  fresh_free : (before xs : List X) → keeps (fresh same) before xs ≡ (every (free before) xs && apart same xs)
  fresh_free before [] = refl
  fresh_free before (x ∷ xs) =
      rw (fresh_free (before ++ x ∷ []) xs, free_push before x xs)
      (mix (among same x before) (among same x xs) (every (free before) xs) (apart same xs))
    where
      mix : (a b c d : Bool) → (not a && ((not b && c) && d)) ≡ ((not a && c) && cond b false d)
      mix true b c d = refl
      mix false true true d = refl
      mix false true false d = refl
      mix false false c d = refl

  fresh_apart : (xs : List X) → keeps (fresh same) [] xs ≡ apart same xs
  fresh_apart xs = fresh_free [] xs ∙ ap (λ z. z && apart same xs) (free_none xs)

module _ {X Y : Type 0} (same : Y → Y → Bool) (symm : (x y : Y) → same x y ≡ same y x) (key : X → Y) where
  among_key : (x : X) (xs : List X) → among (by same key) x xs ≡ among same (key x) (map key xs)
  among_key x [] = refl
  among_key x (y ∷ xs) = ap (λ z. same (key x) (key y) || z) (among_key x xs)

  apart_key : (xs : List X) → apart (by same key) xs ≡ apart same (map key xs)
  apart_key [] = refl
  apart_key (x ∷ xs) = rw (among_key x xs, apart_key xs)

  -- entries told apart by a key
  pub keys_apart : (xs : List X) → keeps (fresh (by same key)) [] xs ≡ apart same (map key xs)
  keys_apart xs = fresh_apart (by same key) (λ x y. symm (key x) (key y)) xs ∙ apart_key xs

-- a consist of the formation
pub among_coupled : (x : Identity) (es : List Coupled) → coupled_in x es ≡ among same_identity x (identities es)
among_coupled x [] = refl
among_coupled x (e ∷ es) = rw (among_coupled x es) (by (same_identity x e.identity))
  where
    by : (b : Bool) → cond b true (among same_identity x (identities es)) ≡ (b || among same_identity x (identities es))
    by true = refl
    by false = refl
