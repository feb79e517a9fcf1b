-- The facts behind a written composition are fine.
use Rattle.std.proofs.Common.{◌≡◌, ℕ, ◌+◌, ◌≤◌, Bool, true, false, cond, not, leb, List, [], ◌∷◌, reverse, length, is_some, Some, None, Option, sym, refl, ap, ◌∙◌, subst, arith}
use mathlib.Core.List.{map-map}
use Rattle.std.specs.List.{flat_map, AllByRecursion}
use Rattle.std.specs.Str.{bytes_eq}
use Rattle.std.proofs.ByRecursion.{All-append, All-map, All-weaker}
use Rattle.std.proofs.lemmas.Bool.{or_parts, leb-true}
use Rattle.std.proofs.lemmas.Bool.Decides.{not_from_Decides}
use Rattle.train.specs.declared.facing.Facing.{Facing}
use Rattle.train.specs.declared.facing.Facing.TheVariants.{NotKnown, Direct, Inverse}
use Rattle.train.specs.declared.identity.Identity.{Identity}
use Rattle.train.specs.declared.name.Name.{Name}
use Rattle.train.specs.declared.entries.Coupled.{Coupled}
use Rattle.train.specs.declared.entries.Vehicle.{Vehicle}
use Rattle.train.specs.Facings.{opposite}
use Rattle.train.specs.Identities.{same_identity, same_name}
use Rattle.train.specs.Octets.{zeros}
use Rattle.train.specs.Refusals.{among}
use Rattle.train.specs.Turning.{turned_list, turned_coupled}
use Rattle.train.proofs.Equal.{same_identity_decides, bytes_eq_sym, same_identity_sym, same_name_sym}
use Rattle.train.proofs.Turns.{turned_twice}
use Rattle.fleet.specs.Fleets.{Consist, Meaning, Lawful, vehicles_of}
use Rattle.bench.specs.declared.claims.Claim.{Claim}
use Rattle.bench.specs.Facts.{Facts}
use Rattle.directory.specs.declared.cars.Car.{Car}
use Rattle.directory.specs.Cars.{met, turned_car, cars, stretch, train}
use Rattle.directory.specs.Operation.{Lead, leads, orient, orientation, from_head, names, strange, pick, ordered, operational}
use Rattle.directory.specs.Sections.{nobody, firsts, seats}
use Rattle.directory.specs.Composing.{in_reach}
use Rattle.directory.specs.Law.{IsFleet}
use Rattle.directory.proofs.Vocabulary.{nowhere, Known, Sixteen, blank, identities, apart, name_long}
use Rattle.directory.proofs.Kept.{Kept, leads_all}
use Rattle.directory.proofs.Turns.{reverse-map}
use Rattle.directory.proofs.Heart.{composed_known}
use Rattle.directory.proofs.Recover.{Uniform}
use Rattle.directory.proofs.Blocks.{Distinct, Of, all_reverse, stretch_own}
use Rattle.directory.proofs.Alikes.{apart_reverse, names_turned}
use Rattle.directory.proofs.Passes.{refuses, passed}
use Rattle.directory.proofs.Oriented.{train_met, turned_coupled_twice, Fitting}
use Rattle.directory.proofs.Forth.{Fine}

pub all_both : {X : Type 0} (P Q : X → Type 0) (xs : List X) → AllByRecursion P xs → AllByRecursion Q xs → AllByRecursion (λ x. P x × Q x) xs
all_both P Q [] h g = tt
all_both P Q (x ∷ xs) h g = ((h.0, g.0), all_both P Q xs h.1 g.1)

pub all_met : {X : Type 0} (turn : X → X) (P : X → Type 0) → ((x : X) → P x → P (turn x)) → (o : Facing) (xs : List X) → AllByRecursion P xs → AllByRecursion P (met turn o xs)
all_met turn P h NotKnown xs g = g
all_met turn P h Direct xs g = g
all_met turn P h Inverse xs g = All-map P turn (reverse xs) (all_reverse (λ x. P (turn x)) xs (All-weaker P (λ x. P (turn x)) h xs g))

pub all_unmet : (P : Coupled → Type 0) → ((x : Coupled) → P x → P (turned_coupled x)) → (o : Facing) (es : List Coupled) → AllByRecursion P (met turned_coupled o es) → AllByRecursion P es
all_unmet P h NotKnown es g = g
all_unmet P h Direct es g = g
all_unmet P h Inverse es g = subst (AllByRecursion P) (turned_twice turned_coupled turned_coupled_twice es) (all_met turned_coupled P h Inverse (turned_list turned_coupled es) g)

all_joined : {X Y : Type 0} (P : Y → Type 0) (f : X → List Y) (xs : List X) → AllByRecursion (λ x. AllByRecursion P (f x)) xs → AllByRecursion P (flat_map f xs)
all_joined P f [] h = tt
all_joined P f (x ∷ xs) h = All-append P (f x) (flat_map f xs) h.0 (all_joined P f xs h.1)

-- no identity twice
identities_met : (o : Facing) (es : List Coupled) → apart same_identity (identities (met turned_coupled o es)) ≡ apart same_identity (identities es)
identities_met NotKnown es = refl
identities_met Direct es = refl
identities_met Inverse es = ap (apart same_identity) (map-map (λ e. e.identity) turned_coupled (reverse es) ∙ sym (reverse-map (λ e. e.identity) es)) ∙ apart_reverse same_identity same_identity_sym (identities es)

not_among : (x : Identity) (es : List Coupled) → among same_identity x (identities es) ≡ false → AllByRecursion (λ d. d.identity ≡ x → ⊥) es
not_among x [] h = tt
not_among x (e ∷ es) h =
    let w = or_parts (same_identity x e.identity) (among same_identity x (identities es)) h in
    (λ q. not_from_Decides (same_identity x e.identity) (same_identity_decides x e.identity) w.0 (sym q), not_among x es w.1)

apart_distinct : (es : List Coupled) → apart same_identity (identities es) ≡ true → Distinct es
apart_distinct [] h = tt
apart_distinct (e ∷ es) h = by (λ z. apart_distinct es z) (among same_identity e.identity (identities es)) refl
  where
    by : (apart same_identity (identities es) ≡ true → Distinct es) → (b : Bool) → among same_identity e.identity (identities es) ≡ b → Distinct (e ∷ es)
    by r true q = let z = rw q at h in nowhere (cc)
    by r false q = (not_among e.identity es q, r (rw q at h))

-- how a consist stands
abbrev stance_in : List Coupled → Identity → Facing
stance_in [] x = NotKnown
stance_in (e ∷ es) x = cond (same_identity x e.identity) e.facing (stance_in es x)

stances : (es : List Coupled) → Distinct es → AllByRecursion (λ e. stance_in es e.identity ≡ e.facing) es
stances [] h = tt
stances (e ∷ es) h = (
  rw ((same_identity_decides e.identity e.identity).1 refl),
  All-weaker _ _ (λ d w. by d w.0 w.1 (same_identity d.identity e.identity) refl) es (all_both (λ d. d.identity ≡ e.identity → ⊥) (λ d. stance_in es d.identity ≡ d.facing) es h.0 (stances es h.1)),
)
  where
    by : (d : Coupled) → (d.identity ≡ e.identity → ⊥) → stance_in es d.identity ≡ d.facing → (b : Bool) → same_identity d.identity e.identity ≡ b
        → stance_in (e ∷ es) d.identity ≡ d.facing
    by d n p true q = absurd (n ((same_identity_decides d.identity e.identity).0 q))
    by d n p false q = rw q p

no_stance : (x : Identity) (es : List Coupled) → AllByRecursion (λ e. same_identity x e.identity ≡ false) es → stance_in es x ≡ NotKnown
no_stance x [] h = refl
no_stance x (e ∷ es) h = rw h.0 (no_stance x es h.1)

nobody_not : (x : Identity) (bs : List ℕ) → x.bytes ≡ bs → length bs ≡ 16 → same_identity nobody x ≡ false
nobody_not x [] e h = absurd (omega arith)
nobody_not x (b ∷ bs) e h = ap (bytes_eq []) e

uniform_from : (s : Identity → Facing) (k : Identity) (p : Facing) (cs : List Car) → p ≡ s k → AllByRecursion (λ c. s c.consist ≡ c.stance) cs → Uniform k p cs
uniform_from s k p [] e h = tt
uniform_from s k p (c ∷ cs) e h = (λ q. sym h.0 ∙ ap s (sym q) ∙ sym e, uniform_from s c.consist c.stance cs (sym h.0) h.1)

-- what holds of the cars holds where they are picked, of the firsts and of the seats
pick_all : (P : Car → Type 0) (cs : List Car) (n : Name) → P (strange n) → AllByRecursion P cs → P (pick cs n)
pick_all P [] n p h = p
pick_all P (c ∷ cs) n p h = by (pick_all P cs n p h.1) (same_name n c.name) refl
  where
    by : P (pick cs n) → (b : Bool) → same_name n c.name ≡ b → P (pick (c ∷ cs) n)
    by r true e = rw e h.0
    by r false e = rw e r

ordered_all : (P : Car → Type 0) (cs : List Car) (ns : List Name) → AllByRecursion (λ n. P (strange n)) ns → AllByRecursion P cs → AllByRecursion P (ordered ns cs)
ordered_all P cs [] p h = h
ordered_all P cs (n ∷ ns) p h = All-map P (pick cs) (n ∷ ns) (All-weaker _ _ (λ k q. pick_all P cs k q h) (n ∷ ns) p)

firsts_all : (P : Car → Type 0) (k : Identity) (cs : List Car) → AllByRecursion P cs → AllByRecursion P (firsts k cs)
firsts_all P k [] h = tt
firsts_all P k (c ∷ cs) h = by (firsts_all P k cs h.1) (firsts_all P c.consist cs h.1) (same_identity k c.consist) refl
  where
    by : AllByRecursion P (firsts k cs) → AllByRecursion P (firsts c.consist cs) → (b : Bool) → same_identity k c.consist ≡ b → AllByRecursion P (firsts k (c ∷ cs))
    by r s true e = rw e r
    by r s false e = rw e (h.0, s)

seats_all : (P : Car → Type 0) (n : ℕ) (k : Identity) (cs : List Car) → AllByRecursion P cs → AllByRecursion (λ s. P s.car) (seats n k cs)
seats_all P n k [] h = tt
seats_all P n k (c ∷ cs) h = by (seats_all P n k cs h.1) (seats_all P (n + 1) c.consist cs h.1) (same_identity k c.consist) refl
  where
    by : AllByRecursion (λ s. P s.car) (seats n k cs) → AllByRecursion (λ s. P s.car) (seats (n + 1) c.consist cs) → (b : Bool) → same_identity k c.consist ≡ b
        → AllByRecursion (λ s. P s.car) (seats n k (c ∷ cs))
    by r s true e = rw e (h.0, r)
    by r s false e = rw e (h.0, s)

cars_named : (P : Name → Type 0) (x : Identity) (o : Option Claim) (k : ℕ) (vs : List Vehicle) → AllByRecursion (λ v. P v.name) vs → AllByRecursion (λ c. P c.name) (cars x o k vs)
cars_named P x o k [] h = tt
cars_named P x o k (v ∷ vs) h = (h.0, cars_named P x o (k + 1) vs h.1)

fleet_named : (o : Option Consist) → Lawful o → AllByRecursion (λ v. Sixteen v.name.bytes) (vehicles_of o)
fleet_named None h = tt
fleet_named (Some c) h = All-weaker _ _ (λ v w. name_long v.name.bytes w.named) c.vehicles h.each

fleet_full : (o : Option Consist) → Lawful o → is_some o ≡ true → 1 ≤ length (vehicles_of o)
fleet_full None h e = nowhere (cc)
fleet_full (Some c) h e = h.some

pub orient_known : (ls : List Lead) → AllByRecursion (λ (l : Lead). Known l.at.direction × Known l.entry.facing) ls → Known (orient ls)
orient_known [] h = tt
orient_known (l ∷ ls) h = composed_known l.at.direction l.entry.facing h.0.0 h.0.1

names_met : (o : Facing) (cs : List Car) → apart same_name (names (met turned_car o cs)) ≡ apart same_name (names cs)
names_met NotKnown cs = refl
names_met Direct cs = refl
names_met Inverse cs = ap (apart same_name) (names_turned cs) ∙ apart_reverse same_name same_name_sym (names cs)

module _ (f : Facts) (m : Meaning) (room : ℕ) (k : Kept f) (fleet : IsFleet m) (e : refuses f m room ≡ None) where
  abbrev ahead : List Coupled
  ahead = met turned_coupled (orientation f) f.formation

  abbrev way : Known (orientation f)
  way = orient_known (leads f.claims f.formation) (leads_all f.claims _ f.formation (λ d c p q. ((k.claims d.identity c p).0, q)) k.facings)

  turn_known : (g : Facing) → Known g → Known (opposite g)
  turn_known NotKnown z = z
  turn_known Direct z = tt
  turn_known Inverse z = tt

  ahead_known : AllByRecursion (λ d. Known d.facing) ahead
  ahead_known = all_met turned_coupled (λ d. Known d.facing) (λ d z. turn_known d.facing z) (orientation f) f.formation k.facings

  ahead_own : AllByRecursion (λ d. blank d.identity ≡ false) ahead
  ahead_own = all_met turned_coupled (λ d. blank d.identity ≡ false) (λ d z. z) (orientation f) f.formation k.own

  ahead_sixteen : AllByRecursion (λ d. Sixteen d.identity.bytes) ahead
  ahead_sixteen = all_met turned_coupled (λ d. Sixteen d.identity.bytes) (λ d z. z) (orientation f) f.formation k.sixteen

  ahead_distinct : Distinct ahead
  ahead_distinct = apart_distinct ahead (identities_met (orientation f) f.formation ∙ k.apart)

  -- of the cars from the head, what holds of each entry's
  head_all : (P : Car → Type 0) → AllByRecursion (λ d. AllByRecursion P (stretch m f.claims d)) ahead → AllByRecursion P (from_head f m)
  head_all P g = subst (AllByRecursion P) (sym (train_met m f.claims (orientation f) f.formation k.facings)) (all_joined P (stretch m f.claims) ahead g)

  by_entry : (P : Car → Type 0) (Q : Coupled → Type 0) → ((d : Coupled) (c : Car) → Q d → Of d c → P c) → AllByRecursion Q ahead → AllByRecursion P (from_head f m)
  by_entry P Q g q = head_all P (All-weaker _ _ (λ d w. All-weaker (Of d) P (λ c o. g d c w.0 o) (stretch m f.claims d) (stretch_own m f.claims d w.1)) ahead (all_both Q (λ d. Known d.facing) ahead q ahead_known))

  every_name : AllByRecursion (λ d. AllByRecursion (λ c. Sixteen c.name.bytes) (stretch m f.claims d)) ahead
  every_name = All-weaker _ _ (λ d z. all_met turned_car (λ c. Sixteen c.name.bytes) (λ c w. w) d.facing _ (cars_named (λ n. Sixteen n.bytes) d.identity (f.claims d.identity) 1 (vehicles_of (m d.identity)) (fleet_named (m d.identity) (fleet d.identity)))) ahead ahead_known

  zeros_sixteen : (n : Name) → Sixteen (strange n).consist.bytes
  zeros_sixteen n = refl

  any : {P : Name → Type 0} → ((n : Name) → P n) → AllByRecursion P f.confirmed
  any {P} g = All-weaker (λ n. Sixteen n.bytes) P (λ n z. g n) f.confirmed k.confirmed

  operational_consists : AllByRecursion (λ c. Sixteen c.consist.bytes) (operational f m)
  operational_consists = ordered_all _ (from_head f m) f.confirmed (any zeros_sixteen) (by_entry _ (λ d. Sixteen d.identity.bytes) (λ d c z o. subst (λ (z : Identity). Sixteen z.bytes) (sym o.0) z) ahead_sixteen)

  operational_names : AllByRecursion (λ c. Sixteen c.name.bytes) (operational f m)
  operational_names = ordered_all _ (from_head f m) f.confirmed k.confirmed (head_all _ every_name)

  operational_stances : AllByRecursion (λ c. stance_in ahead c.consist ≡ c.stance) (operational f m)
  operational_stances =
      ordered_all _ (from_head f m) f.confirmed (any (λ n. no_stance (strange n).consist ahead (All-weaker _ _ (λ d z. bytes_eq_sym zeros d.identity.bytes ∙ z) ahead ahead_own)))
      (by_entry _ (λ d. stance_in ahead d.identity ≡ d.facing) (λ d c z o. ap (stance_in ahead) o.0 ∙ z ∙ sym o.1) (stances ahead ahead_distinct))

  pub fine : Fine f m
  fine =
      let ok = passed f m room e in
      record {
        known = k.facings;
        way = way;
        distinct = ahead_distinct;
        full = all_both _ _ ahead ahead_known (all_met turned_coupled (λ d. 1 ≤ length (vehicles_of (m d.identity))) (λ d z. z) (orientation f) f.formation (All-weaker _ _ (λ d z. fleet_full (m d.identity) (fleet d.identity) z) f.formation ok.present));
        uniform = uniform_from (stance_in ahead) nobody NotKnown (operational f m) (sym (no_stance nobody ahead (All-weaker _ _ (λ d z. nobody_not d.identity d.identity.bytes refl z) ahead ahead_sixteen))) operational_stances;
        consists = firsts_all _ nobody (operational f m) operational_consists;
        named = seats_all (λ c. Sixteen c.name.bytes) 0 nobody (operational f m) operational_names;
        owned = by_entry _ (λ d. blank d.identity ≡ false) (λ d c z o. ap (λ x. not (blank x)) o.0 ∙ ap not z) ahead_own;
        distinctly = names_met (orientation f) (train m f.claims f.formation) ∙ ok.distinct;
        order = ok.order;
      }

  fits : (d : Coupled) (o : Option Claim) → f.claims d.identity ≡ o → in_reach m f.claims d ≡ true → Fitting (length (vehicles_of (m d.identity))) o
  fits d None q z = tt
  fits d (Some c) q z =
      let w : leb c.vehicle (length (vehicles_of (m d.identity))) ≡ true = rw q at z in
      (k.numbers d.identity c q, leb-true c.vehicle (length (vehicles_of (m d.identity))) w, (k.claims d.identity c q).0)

  -- each claim is of a vehicle of its consist
  pub fitting : AllByRecursion (λ d. Fitting (length (vehicles_of (m d.identity))) (f.claims d.identity)) ahead
  fitting =
      let ok = passed f m room e in
      all_met turned_coupled (λ d. Fitting (length (vehicles_of (m d.identity))) (f.claims d.identity)) (λ d z. z) (orientation f) f.formation
      (All-weaker _ _ (λ d z. fits d (f.claims d.identity) refl z) f.formation ok.reached)
