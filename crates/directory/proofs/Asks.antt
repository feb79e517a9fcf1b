-- A composition asks a fleet only for the consists of the formation.
use Rattle.std.proofs.Common.{◌≡◌, ℕ, ◌+◌, Bool, cond, ◌&&◌, List, [], ◌∷◌, ◌++◌, length, is_some, Option, refl, ap, ap₂}
use mathlib.Core.Path.{fun_ext}
use Rattle.std.specs.List.{flat_map, AllByRecursion}
use Rattle.std.proofs.ByRecursion.{All-weaker}
use Rattle.train.specs.declared.identity.Identity.{Identity}
use Rattle.train.specs.declared.entries.Coupled.{Coupled}
use Rattle.train.specs.Identities.{same_name}
use Rattle.train.specs.Refusals.{keeps, first_breach, alone}
use Rattle.fleet.specs.Fleets.{Meaning, vehicles_of}
use Rattle.bench.specs.declared.claims.Claim.{Claim}
use Rattle.bench.specs.Facts.{Facts}
use Rattle.directory.specs.Cars.{met, train, turned_car, cars}
use Rattle.directory.specs.Sections.{place, rows, entry_row, composition, vehicle_number}
use Rattle.directory.specs.Composing.{has, in_reach, reaches, composed_into}

pub joined_cong : {X Y : Type 0} (f g : X → List Y) (xs : List X) → AllByRecursion (λ x. f x ≡ g x) xs → flat_map f xs ≡ flat_map g xs
joined_cong f g [] h = refl
joined_cong f g (x ∷ xs) h = ap₂ (λ a b. a ++ b) h.0 (joined_cong f g xs h.1)

pub rows_cong : {X : Type 0} (t u : ℕ → X → List ℕ) (n : ℕ) (xs : List X) → AllByRecursion (λ x. (k : ℕ) → t k x ≡ u k x) xs → rows t n xs ≡ rows u n xs
rows_cong t u n [] h = refl
rows_cong t u n (x ∷ xs) h = ap₂ (λ a b. a ++ b) (h.0 n) (rows_cong t u (n + 1) xs h.1)

module _ {X : Type 0} (t u : X → Bool) where
  keeps_cong : (before xs : List X) → AllByRecursion (λ x. t x ≡ u x) xs → keeps (alone t) before xs ≡ keeps (alone u) before xs
  keeps_cong before [] h = refl
  keeps_cong before (x ∷ xs) h = ap₂ (λ a b. a && b) h.0 (keeps_cong (before ++ x ∷ []) xs h.1)

  breach_cong : (before xs : List X) → AllByRecursion (λ x. t x ≡ u x) xs → first_breach (alone t) before xs ≡ first_breach (alone u) before xs
  breach_cong before [] h = refl
  breach_cong before (x ∷ xs) h = ap₂ (λ a b. cond a b (length before + 1)) h.0 (breach_cong (before ++ x ∷ []) xs h.1)

module _ (m n : Meaning) where
  abbrev pub Same : List Coupled → Type 0
  Same es = AllByRecursion (λ e. m e.identity ≡ n e.identity) es

  pub train_cong : (claims : Identity → Option Claim) (es : List Coupled) → Same es → train m claims es ≡ train n claims es
  train_cong claims es h = joined_cong _ _ es (All-weaker _ _ (λ e q. ap (λ o. met turned_car e.facing (cars e.identity (claims e.identity) 1 (vehicles_of o))) q) es h)

  rows_same : (es : List Coupled) → Same es → rows (entry_row m) 1 es ≡ rows (entry_row n) 1 es
  rows_same es h = rows_cong _ _ 1 es (All-weaker _ _ (λ e q k. rw q) es h)

  numbers_same : (f : Facts) → Same f.formation → vehicle_number f m ≡ vehicle_number f n
  numbers_same f h = fun_ext (λ v. ap (λ z. place (λ d. same_name v.name d.name) 1 z ∷ []) (train_cong f.claims f.formation h))

  pub composition_cong : (f : Facts) → Same f.formation → composition f m ≡ composition f n
  composition_cong f h =
      let a = train_cong f.claims f.formation h in
      let d = rows_same f.formation h in
      let t = numbers_same f h in
      simp (a, d, t)

  pub composed_into_cong : (f : Facts) (room : ℕ) → Same f.formation → composed_into f m room ≡ composed_into f n room
  composed_into_cong f room h =
      let es : List Coupled = f.formation in
      let a = train_cong f.claims es h in
      let d = rows_same es h in
      let t = numbers_same f h in
      let p = All-weaker _ (λ e. has m e ≡ has n e) (λ e q. ap is_some q) es h in
      let r = All-weaker _ (λ e. in_reach m f.claims e ≡ in_reach n f.claims e) (λ e q. ap (λ o. reaches (f.claims e.identity) (length (vehicles_of o))) q) es h in
      let b = keeps_cong (has m) (has n) [] es p in
      let b' = breach_cong (has m) (has n) [] es p in
      let c = keeps_cong (in_reach m f.claims) (in_reach n f.claims) [] es r in
      let c' = breach_cong (in_reach m f.claims) (in_reach n f.claims) [] es r in
      simp (a, b, b', c, c', d, t)

  -- the order from the head asks for the vehicles alone
  pub train_vehicles : (claims : Identity → Option Claim) (es : List Coupled) → AllByRecursion (λ e. vehicles_of (m e.identity) ≡ vehicles_of (n e.identity)) es
      → train m claims es ≡ train n claims es
  train_vehicles claims es h = joined_cong _ _ es (All-weaker _ _ (λ e q. ap (λ vs. met turned_car e.facing (cars e.identity (claims e.identity) 1 vs)) q) es h)
