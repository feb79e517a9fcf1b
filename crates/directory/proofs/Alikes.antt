-- A formation turned under one claim composes, or is refused under the same number.
use Rattle.std.proofs.Common.{◌≡◌, ℕ, ◌+◌, ◌*◌, ◌≤◌, Bool, true, false, cond, not, ◌&&◌, ◌||◌, leb, List, [], ◌∷◌, ◌++◌, reverse, length, sym, refl, ap, ◌∙◌, subst, ap₂, arith}
use mathlib.Core.Path.{fun_ext}
use mathlib.Core.List.{reverse-cons, map-map}
use Rattle.std.specs.List.{AllByRecursion}
use Rattle.std.proofs.lemmas.Bool.{leb-true}
use Rattle.train.specs.declared.entries.Coupled.{Coupled}
use Rattle.train.specs.declared.refusal.Part.TheVariants.{Composing}
use Rattle.train.specs.Identities.{same_name}
use Rattle.train.specs.Names.{every}
use Rattle.train.specs.Refusals.{Check, refusal, keeps, alone, among}
use Rattle.train.specs.Turning.{turned_list, turned_coupled}
use Rattle.train.proofs.Equal.{same_name_sym}
use Rattle.fleet.specs.Fleets.{Meaning}
use Rattle.bench.specs.Facts.{Facts}
use Rattle.directory.specs.declared.cars.Car.{Car}
use Rattle.directory.specs.Cars.{train, turned_car}
use Rattle.directory.specs.Operation.{Lead, leads, from_head, names, ordered, operational}
use Rattle.directory.specs.Sections.{firsts, nobody, size}
use Rattle.directory.specs.Composing.{checks, outcome, composed_into, fresh_name, has, in_reach, in_order, parted}
use Rattle.directory.specs.Law.{Alike}
use Rattle.directory.proofs.Vocabulary.{Known, apart, among_push, keeps_alone, keys_apart}
use Rattle.directory.proofs.Turns.{reverse-map, turned_cons, length_turned}
use Rattle.directory.proofs.Heart.{train_turned, leads_turned, turn_lead, head_same}

every_push : {X : Type 0} (p : X → Bool) (xs : List X) (x : X) → every p (xs ++ x ∷ []) ≡ (p x && every p xs)
every_push p [] x = refl
every_push p (y ∷ xs) x = rw (every_push p xs x) (swap (p y) (p x) (every p xs))
  where
    swap : (a b c : Bool) → (a && (b && c)) ≡ (b && (a && c))
    swap true b c = refl
    swap false true c = refl
    swap false false c = refl

every_turned : {X : Type 0} (turn : X → X) (p : X → Bool) (xs : List X) → every p (turned_list turn xs) ≡ every (λ x. p (turn x)) xs
every_turned turn p [] = refl
every_turned turn p (x ∷ xs) = ap (every p) (turned_cons turn x xs) ∙ every_push p (turned_list turn xs) (turn x) ∙ ap (λ z. p (turn x) && z) (every_turned turn p xs)

-- lists of what can be told apart, from the other end
module _ {X : Type 0} (same : X → X → Bool) (symm : (x y : X) → same x y ≡ same y x) where
  pub among-reverse : (x : X) (xs : List X) → among same x (reverse xs) ≡ among same x xs
  among-reverse x [] = refl
  among-reverse x (y ∷ xs) = ap (among same x) (reverse-cons y xs) ∙ among_push same x (reverse xs) y ∙ ap (λ z. same x y || z) (among-reverse x xs)

  apart_push : (xs : List X) (x : X) → apart same (xs ++ x ∷ []) ≡ cond (among same x xs) false (apart same xs)
  apart_push [] x = refl
  apart_push (y ∷ xs) x = rw (among_push same y xs x, apart_push xs x, symm y x) (by (same x y) (among same x xs) (among same y xs) (apart same xs))
    where
      by : (s p q r : Bool) → cond (s || q) false (cond p false r) ≡ cond (s || p) false (cond q false r)
      by true p q r = refl
      by false true true r = refl
      by false true false r = refl
      by false false q r = refl

  pub apart_reverse : (xs : List X) → apart same (reverse xs) ≡ apart same xs
  apart_reverse [] = refl
  apart_reverse (x ∷ xs) = ap (apart same) (reverse-cons x xs) ∙ apart_push (reverse xs) x ∙ rw (among-reverse x xs, apart_reverse xs)

pub names_turned : (cs : List Car) → names (turned_list turned_car cs) ≡ reverse (names cs)
names_turned cs = map-map (λ c. c.name) turned_car (reverse cs) ∙ sym (reverse-map (λ c. c.name) cs)

-- checks that go alike: the next matter only where the former pass
abbrev pub Agree : List Check → List Check → Type 0
Agree [] [] = Unit {0}
Agree [] (d ∷ ds) = ⊥
Agree (c ∷ cs) [] = ⊥
Agree (c ∷ cs) (d ∷ ds) = (d.ok ≡ c.ok) × (c.reason ≡ d.reason) × (c.ok ≡ true → Agree cs ds)

pub agree_alike : (cs ds : List Check) (x y : List ℕ) → Agree cs ds → Alike (outcome (refusal Composing cs) x) (outcome (refusal Composing ds) y)
agree_alike [] [] x y h = tt
agree_alike [] (d ∷ ds) x y h = absurd h
agree_alike (c ∷ cs) [] x y h = absurd h
agree_alike (c ∷ cs) (d ∷ ds) x y h = by (λ z. agree_alike cs ds x y z) c.ok refl
  where
    by : (Agree cs ds → Alike (outcome (refusal Composing cs) x) (outcome (refusal Composing ds) y)) → (b : Bool) → c.ok ≡ b
        → Alike (outcome (refusal Composing (c ∷ cs)) x) (outcome (refusal Composing (d ∷ ds)) y)
    by r true e = rw (h.0, e) (r (h.2 e))
    by r false e = rw (h.0, e) h.1

-- f, and f with its formation turned
abbrev pub turn_facts : Facts → Facts
turn_facts f = record { etb = f.etb; formation = turned_list turned_coupled f.formation; claims = f.claims; confirmed = f.confirmed }

one_lead : (ls : List Lead) → 1 ≤ length ls → length ls ≤ 1 → (l : Lead) × (ls ≡ l ∷ [])
one_lead [] h g = absurd (omega arith)
one_lead (l ∷ []) h g = (l, refl)
one_lead (l ∷ k ∷ ls) h g = absurd (omega arith)

module _ (f : Facts) (m : Meaning) (room : ℕ) (known : AllByRecursion (λ e. Known e.facing) f.formation) (led : 1 ≤ length (leads f.claims f.formation)) (ways : AllByRecursion (λ (l : Lead). Known l.at.direction × Known l.entry.facing) (leads f.claims f.formation)) where
  same_head : length (leads f.claims f.formation) ≤ 1 → from_head (turn_facts f) m ≡ from_head f m
  same_head h =
      let o = one_lead (leads f.claims f.formation) led h in
      let w : Known o.0.at.direction × Known o.0.entry.facing = (subst (AllByRecursion (λ (l : Lead). Known l.at.direction × Known l.entry.facing)) o.1 ways).0 in
      head_same m f.claims f.formation o.0 known o.1 w.0 w.1

  pub same_operational : length (leads f.claims f.formation) ≤ 1 → operational (turn_facts f) m ≡ operational f m
  same_operational h = ap (ordered f.confirmed) (same_head h)

  same_size : length (leads f.claims f.formation) ≤ 1 → size (turn_facts f) m ≡ size f m
  same_size h = ap₂ (λ (n : ℕ) cs. 19 + 24 * n + 20 * length (firsts nobody cs) + 24 * length cs) (length_turned turned_coupled f.formation) (same_operational h)

  each_alike : (test : Coupled → Bool) → ((e : Coupled) → test (turned_coupled e) ≡ test e)
      → keeps (alone test) [] (turned_list turned_coupled f.formation) ≡ keeps (alone test) [] f.formation
  each_alike test h =
      keeps_alone test [] (turned_list turned_coupled f.formation)
      ∙ every_turned turned_coupled test f.formation
      ∙ ap (λ t. every t f.formation) (fun_ext h)
      ∙ sym (keeps_alone test [] f.formation)

  names_alike : keeps fresh_name [] (train m f.claims (turned_list turned_coupled f.formation)) ≡ keeps fresh_name [] (train m f.claims f.formation)
  names_alike =
      let cs : List Car = train m f.claims f.formation in
      keys_apart same_name same_name_sym (λ c. c.name) (train m f.claims (turned_list turned_coupled f.formation))
      ∙ ap (apart same_name) (ap names (train_turned m f.claims f.formation known) ∙ names_turned cs)
      ∙ apart_reverse same_name same_name_sym (names cs)
      ∙ sym (keys_apart same_name same_name_sym (λ c. c.name) cs)

  pub turns_alike : Alike (composed_into f m room) (composed_into (turn_facts f) m room)
  turns_alike =
      agree_alike (checks f m room) (checks (turn_facts f) m room) _ _ (
        ap (leb 1) (length_turned turned_coupled f.formation),
        refl,
        λ _. (
          each_alike (has m) (λ e. refl),
          refl,
          λ _. (
            ap (λ z. leb z 63) (ap length (train_turned m f.claims f.formation known) ∙ length_turned turned_car (train m f.claims f.formation)),
            refl,
            λ _. (
              names_alike,
              refl,
              λ _. (
                ap (λ z. leb z 1) (ap length (leads_turned m f.claims f.formation) ∙ length_turned turn_lead (leads f.claims f.formation)),
                refl,
                λ one. (
                  each_alike (in_reach m f.claims) (λ e. refl),
                  refl,
                  λ _. (
                    ap (λ z. in_order f.confirmed (names z)) (same_head (leb-true _ 1 one)),
                    refl,
                    λ _. (
                      ap (λ z. not (parted z)) (same_operational (leb-true _ 1 one)),
                      refl,
                      λ _. (ap (λ z. leb z room) (same_size (leb-true _ 1 one)), refl, λ _. tt),
                    ),
                  ),
                ),
              ),
            ),
          ),
        ),
      )
