-- The refusals of inaugurate and compose for all consists of a fleet, each direct, in plain words.
use Rattle.std.proofs.Common.{◌≡◌, ℕ, ◌+◌, ◌-◌, ◌≤◌, Bool, true, false, not, ◌&&◌, ◌||◌, eqb, leb, List, [], ◌∷◌, ◌++◌, map, length, get_or, is_some, Some, None, Option, sym, refl, ap, ◌∙◌, ap₂, inl, inr, arith}
use Rattle.std.specs.List.{AllByRecursion}
use Rattle.std.specs.Str.{bytes_eq}
use Rattle.std.proofs.ByRecursion.{All-append, All-get_or, All-weaker}
use Rattle.std.proofs.lemmas.List.{length-map, get_or_append_left, get_or-append_right, length-append}
use Rattle.std.proofs.lemmas.Bool.{and_parts, and_from, leb-true, le-leb, lt-leb, cases_Bool, cases_lt, cond-true, cond-false}
use Rattle.train.specs.declared.entries.Coupled.{Coupled}
use Rattle.train.specs.declared.entries.Vehicle.{Vehicle}
use Rattle.train.specs.declared.identity.Identity.{Identity}
use Rattle.train.specs.declared.refusal.Part.TheVariants.{Text, Bench, Composing}
use Rattle.train.specs.declared.refusal.Reason.TheVariants.{ConsistCount, VehicleCount, IdentityOrder, ZeroCounter, EntryCount, UnknownFacing, Repeated, NoFormation, ConsistAbsent, TrainLength, SharedName, SeveralClaims, ClaimBeyond, ListOrder, InsertedInside}
use Rattle.train.specs.declared.refusal.Refusal.{Refusal}
use Rattle.train.specs.Facings.{known}
use Rattle.train.specs.Identities.{is_identity, is_counter, same_identity}
use Rattle.train.specs.Names.{every}
use Rattle.train.specs.Octets.{below, zeros}
use Rattle.train.specs.Refusals.{Check, must, each, alone, fresh, by, keeps, first_breach, breach, or_else, refusal, refused_at}
use Rattle.train.proofs.Bytes.{below_strict}
use Rattle.train.proofs.Rules.{refusal-joined}
use Rattle.fleet.specs.Fleets.{Meaning, Pairs, vehicles_of}
use Rattle.fleet.specs.Books.{Item, IsItem, IsFleet, Rising, meaning_of, vehicles_in, book_of}
use Rattle.fleet.specs.Halves.{same_self, above_apart}
use Rattle.fleet.specs.Kept.{pairs_fresh, pairs_mapped}
use Rattle.fleet_list.specs.Imports.{identity_in, vehicles_of as lines_vehicles, rising, names_apart, room_for, list_checks}
use Rattle.fleet_list.specs.Lists.{IsLine}
use Rattle.fleet_list.proofs.Lawful.{book_long}
use Rattle.bench.specs.Facts.{within}
use Rattle.directory.specs.declared.cars.Car.{Car}
use Rattle.directory.specs.Cars.{cars, stretch, train}
use Rattle.directory.specs.Operation.{Lead, leads, from_head, operational, strange}
use Rattle.directory.specs.Composing.{has, in_reach, inserted, car_of, split, parted, consist_at}
use Rattle.directory.specs.Composing as composing
use Rattle.directory.specs.Sections.{nobody, place, size}
use Rattle.directory.proofs.Loads.{length-cars}
use Rattle.directory.proofs.Runs.{firsts_few}
use Rattle.directory.proofs.Vocabulary.{keeps_alone}
use Rattle.coach_order.specs.Orders.{direct, formation_of, facts_of, inaugurated, composed, uncoupled, vehicle_of}
use Rattle.coach_order.specs.Plain.{holder, fresh_name, named_apart, plainly, line_checks}
use Rattle.coach_order.proofs.Breaches.{ok_first, or_none, every_yes, among-map, breach_within}
use Rattle.train.proofs.Rules.{keeps-map, breach-map}
use Rattle.coach_order.proofs.Composed.{meant_each, no_leads, head_first, train_told}

-- inaugurate asks only how many consists there are

identity_good : (i : Item) → IsItem i → is_identity i.identity.bytes ≡ true
identity_good i h = and_from (eqb (length i.identity.bytes) 16) _ (ap (λ (n : ℕ). eqb n 16) h.whole) (ap not h.real)

identities_good : (is : List Item) → AllByRecursion IsItem is → every (λ e. is_identity e.identity.bytes) (formation_of is) ≡ true
identities_good [] h = refl
identities_good (i ∷ is) h = ap₂ ◌&&◌ (identity_good i h.0) (identities_good is h.1)

all_known : (is : List Item) → every (λ e. known e.facing) (formation_of is) ≡ true
all_known [] = refl
all_known (i ∷ is) = all_known is

distinct : (is : List Item) → Rising is → Pairs (λ i j. i.identity.bytes ≡ j.identity.bytes → ⊥) is
distinct [] p = tt
distinct (i ∷ is) p = (All-weaker _ _ (λ j h. below_strict i.identity.bytes j.identity.bytes h) is p.0, distinct is p.1)

no_repeat : (is : List Item) → Rising is → keeps (fresh (by bytes_eq (λ e. e.identity.bytes))) [] (formation_of is) ≡ true
no_repeat is p = pairs_fresh (λ (e : Coupled). e.identity.bytes) (formation_of is) (pairs_mapped direct (λ e g. e.identity.bytes ≡ g.identity.bytes → ⊥) is (distinct is p))

pub inaugurated_plainly : (is : List Item) → IsFleet is → inaugurated is ≡ breach Bench (must (within 1 63 (length is)) EntryCount)
inaugurated_plainly is f =
    let es : List Coupled = formation_of is in
    let real : Check = each (alone (λ e. is_identity e.identity.bytes)) IdentityOrder es in
    let count : Check = must (within 1 63 (length es)) EntryCount in
    let faced : Check = each (alone (λ e. known e.facing)) UnknownFacing es in
    let apart : Check = each (fresh (by bytes_eq (λ e. e.identity.bytes))) Repeated es in
    ok_first Bench real (must (is_counter 1) ZeroCounter ∷ count ∷ faced ∷ apart ∷ []) (keeps_alone (λ e. is_identity e.identity.bytes) [] es ∙ identities_good is f.each)
    ∙ ap (λ (o : Option Refusal). or_else (breach Bench count) o)
    (ok_first Bench faced (apart ∷ []) (keeps_alone (λ e. known e.facing) [] es ∙ all_known is) ∙ ok_first Bench apart [] (no_repeat is f.rising))
    ∙ or_none (breach Bench count) ∙ ap (λ (n : ℕ). breach Bench (must (within 1 63 n) EntryCount)) (length-map is direct)

-- what holds of the cars of each consist

cars_all : (x : Identity) (k : ℕ) (vs : List Vehicle) → AllByRecursion (λ c. c.consist ≡ x) (cars x None k vs)
cars_all x k [] = tt
cars_all x k (v ∷ vs) = (refl, cars_all x (k + 1) vs)

train_all : (m : Meaning) (P : Car → Type 0) (Q : Item → Type 0) → ((i : Item) (c : Car) → Q i → c.consist ≡ i.identity → P c) → (is : List Item) → AllByRecursion Q is
    → AllByRecursion P (train m (λ _. None) (formation_of is))
train_all m P Q h [] q = tt
train_all m P Q h (i ∷ is) q =
    All-append P (stretch m (λ _. None) (direct i)) (train m (λ _. None) (formation_of is))
    (All-weaker _ P (λ c e. h i c q.0 e) (stretch m (λ _. None) (direct i)) (cars_all i.identity 1 (vehicles_of (m i.identity))))
    (train_all m P Q h is q.1)

-- none of them is inserted
split_none : (x : Identity) (cs : List Car) → AllByRecursion (λ c. inserted c ≡ false) cs → split x cs ≡ false
split_none x [] h = refl
split_none x (c ∷ cs) h = ap₂ (λ (a b : Bool). (a && car_of x cs) || b) h.0 (split_none x cs h.1)

parted_none : (cs : List Car) → AllByRecursion (λ c. inserted c ≡ false) cs → parted cs ≡ false
parted_none [] h = refl
parted_none (c ∷ cs) h =
    ap₂ (λ (a b : Bool). (not (inserted c) && a) || b) (split_none c.consist cs h.1) (parted_none cs h.1) ∙ off (not (inserted c))
  where
    off : (b : Bool) → ((b && false) || false) ≡ false
    off true = refl
    off false = refl

-- the consist of a vehicle is the one that holds it
module _ (m : Meaning) (d : Car) where
  abbrev all : List Item → List Car
  all is = train m (λ _. None) (formation_of is)

  pub held_in : (n : ℕ) (is : List Item) (p : ℕ) → Rising is → AllByRecursion (λ i. m i.identity ≡ Some i.consist) is → 1 ≤ p → p ≤ length (all is)
      → place (λ e. same_identity (get_or (all is) (p - 1) d).consist e.identity) n (formation_of is) ≡ holder n is p
  held_in n [] p r h a b = absurd (omega arith)
  held_in n (i ∷ is) p r h a b =
      let cs : List Car = stretch m (λ _. None) (direct i) in
      let k : length (stretch m (λ _. None) (direct i)) ≡ length i.consist.vehicles = length-cars i.identity None 1 (vehicles_of (m i.identity)) ∙ ap (λ o. length (vehicles_of o)) h.0 in
      let whole = length-append (stretch m (λ _. None) (direct i)) (all is) in
      elim (cases_lt (length i.consist.vehicles) p) [
        | inl far ↦
            let j : ℕ = p - length i.consist.vehicles in
            let e : get_or (all (i ∷ is)) (p - 1) d ≡ get_or (all is) (j - 1) d =
            get_or-append_right (stretch m (λ _. None) (direct i)) (all is) (length i.consist.vehicles) (p - 1) d k (omega arith) ∙ ap (λ (q : ℕ). get_or (all is) q d) (omega arith) in
            let other : same_identity (get_or (all (i ∷ is)) (p - 1) d).consist i.identity ≡ false =
            ap (λ (c : Car). same_identity c.consist i.identity) e
            ∙ All-get_or (λ c. same_identity c.consist i.identity ≡ false) (all is) (j - 1) d (omega arith)
            (train_all m (λ c. same_identity c.consist i.identity ≡ false) (λ g. below i.identity.bytes g.identity.bytes ≡ true)
            (λ g c q z. ap (λ (x : Identity). same_identity x i.identity) z ∙ above_apart i.identity.bytes g.identity.bytes q) is r.0) in
            let past : leb p (length i.consist.vehicles) ≡ false = lt-leb p (length i.consist.vehicles) far in
            cond-false (same_identity (get_or (all (i ∷ is)) (p - 1) d).consist i.identity) n _ other
            ∙ ap (λ (c : Car). place (λ g. same_identity c.consist g.identity) (n + 1) (formation_of is)) e
            ∙ held_in (n + 1) is j r.1 h.1 (omega arith) (omega arith)
            ∙ sym (cond-false (leb p (length i.consist.vehicles)) n (holder (n + 1) is j) past)
        | inr near ↦
            let e : get_or (all (i ∷ is)) (p - 1) d ≡ get_or cs (p - 1) d = get_or_append_left cs (all is) d (p - 1) (omega arith) in
            let own : same_identity (get_or (all (i ∷ is)) (p - 1) d).consist i.identity ≡ true =
            ap (λ (c : Car). same_identity c.consist i.identity) e
            ∙ ap (λ (x : Identity). same_identity x i.identity) (All-get_or (λ c. c.consist ≡ i.identity) cs (p - 1) d (omega arith) (cars_all i.identity 1 (vehicles_of (m i.identity))))
            ∙ same_self i.identity.bytes in
            cond-true (same_identity (get_or (all (i ∷ is)) (p - 1) d).consist i.identity) n _ own
            ∙ sym (cond-true (leb p (length i.consist.vehicles)) n _ (le-leb p (length i.consist.vehicles) near))
      ]

module _ (is : List Item) (f : IsFleet is) where
  abbrev m : Meaning
  m = meaning_of is

  abbrev tr : List Car
  tr = train m (λ _. None) (formation_of is)

  abbrev meant : AllByRecursion (λ i. meaning_of is i.identity ≡ Some i.consist) is
  meant = meant_each is f.rising

  told : map vehicle_of tr ≡ vehicles_in is
  told = train_told m is meant

  long : length tr ≡ length (vehicles_in is)
  long = sym (length-map tr vehicle_of) ∙ ap length told

  same_rule : (before : List Car) (c : Car) → composing.fresh_name before c ≡ fresh_name (map vehicle_of before) (vehicle_of c)
  same_rule before c = ap not (among-map bytes_eq vehicle_of (λ v. v.name.bytes) c before)

  same_keeps : keeps composing.fresh_name [] tr ≡ keeps fresh_name [] (vehicles_in is)
  same_keeps = keeps-map vehicle_of composing.fresh_name fresh_name same_rule [] tr ∙ ap (λ (vs : List Vehicle). keeps fresh_name [] vs) told

  same_breach : first_breach composing.fresh_name [] tr ≡ first_breach fresh_name [] (vehicles_in is)
  same_breach = breach-map vehicle_of composing.fresh_name fresh_name same_rule [] tr ∙ ap (λ (vs : List Vehicle). first_breach fresh_name [] vs) told

  names_plainly : breach Composing (composing.names_apart (formation_of is) tr) ≡ breach Composing (named_apart is)
  names_plainly =
      elim (cases_Bool (keeps fresh_name [] (vehicles_in is))) [
        | inl t ↦ cond-true _ None _ (same_keeps ∙ t) ∙ sym (cond-true _ None _ t)
        | inr n ↦
            let p : ℕ = first_breach composing.fresh_name [] tr in
            let w = breach_within composing.fresh_name [] tr (same_keeps ∙ n) in
            let a = w.0 in
            let b = w.1 in
            let q = held_in m (strange (record { bytes = zeros })) 1 is p f.rising meant (omega arith) (omega arith) ∙ ap (holder 1 is) same_breach in
            cond-false _ None _ (same_keeps ∙ n) ∙ ap (λ (k : ℕ). Some (refused_at Composing SharedName k)) q ∙ sym (cond-false _ None _ n)
      ]

  present : (js : List Item) → AllByRecursion (λ j. meaning_of is j.identity ≡ Some j.consist) js → every (has m) (formation_of js) ≡ true
  present [] h = refl
  present (j ∷ js) h = ap₂ ◌&&◌ (ap is_some h.0) (present js h.1)

  abbrev late : List Check
  late =
      must (leb (length (leads (λ _. None) (formation_of is))) 1) SeveralClaims
      ∷ each (alone (in_reach m (λ _. None))) ClaimBeyond (formation_of is)
      ∷ (composing.order_checks [] (from_head (facts_of is) m) ++ composing.room_check (facts_of is) m 4303 ∷ [])

  -- the claims and the confirmed list, of which there are none, and the room, which is enough
  late_met : length is ≤ 63 → length tr ≤ 63 → refusal Composing late ≡ None
  late_met few short =
      let es : List Coupled = formation_of is in
      let order : Check = must true ListOrder in
      let inside : Check = must (not (parted (from_head (facts_of is) m))) InsertedInside in
      let room : Check = composing.room_check (facts_of is) m 4303 in
      let reach : Check = each (alone (in_reach m (λ _. None))) ClaimBeyond es in
      let own = train_all m (λ c. inserted c ≡ false) IsItem (λ i c h e. ap (λ (x : Identity). bytes_eq x.bytes zeros) e ∙ h.real) is f.each in
      let op = ap length (head_first is) in
      let firsts_long = firsts_few nobody (operational (facts_of is) m) in
      let formed = length-map is direct in
      ok_first Composing (must (leb (length (leads (λ _. None) es)) 1) SeveralClaims) (reach ∷ order ∷ inside ∷ room ∷ []) (ap (λ (ls : List Lead). leb (length ls) 1) (no_leads es))
      ∙ ok_first Composing reach (order ∷ inside ∷ room ∷ []) (keeps_alone (in_reach m (λ _. None)) [] es ∙ every_yes (in_reach m (λ _. None)) (λ e. refl) es)
      ∙ ok_first Composing inside (room ∷ []) (ap (λ (cs : List Car). not (parted cs)) (head_first is) ∙ ap not (parted_none tr own))
      ∙ ok_first Composing room [] (le-leb (size (facts_of is) m) 4303 (omega arith))

  composed_plainly : 1 ≤ length is → length is ≤ 63 → composed is ≡ refusal Composing (must (leb (length (vehicles_in is)) 63) TrainLength ∷ named_apart is ∷ [])
  composed_plainly some few =
      let es : List Coupled = formation_of is in
      let formed = length-map is direct in
      let lacks : Check = each (alone (has m)) ConsistAbsent es in
      let count : Check = must (leb (length tr) 63) TrainLength in
      let apart : Check = composing.names_apart es tr in
      let rest : Option Refusal = or_else (breach Composing apart) (refusal Composing late) in
      ok_first Composing (must (leb 1 (length es)) NoFormation) (lacks ∷ count ∷ apart ∷ late) (le-leb 1 (length es) (omega arith))
      ∙ ok_first Composing lacks (count ∷ apart ∷ late) (keeps_alone (has m) [] es ∙ present is meant)
      ∙ elim (cases_Bool (leb (length tr) 63)) [
        | inl t ↦
            ap (λ (o : Option Refusal). or_else (breach Composing count) (or_else (breach Composing apart) o)) (late_met few (leb-true (length tr) 63 t))
            ∙ ap₂ (λ (x y : Option Refusal). or_else x (or_else y None)) (ap (λ (n : ℕ). breach Composing (must (leb n 63) TrainLength)) long) names_plainly
        | inr n ↦
            ap (λ (b : Bool). or_else (breach Composing (must b TrainLength)) rest) n
            ∙ sym (ap (λ (b : Bool). or_else (breach Composing (must b TrainLength)) (refusal Composing (named_apart is ∷ []))) (ap (λ (k : ℕ). leb k 63) (sym long) ∙ n))
      ]

  pub plain_told : uncoupled is ≡ plainly is
  plain_told =
      ap (λ (o : Option Refusal). or_else o (composed is)) (inaugurated_plainly is f)
      ∙ elim (cases_Bool (within 1 63 (length is))) [
        | inl t ↦
            let w = and_parts (leb 1 (length is)) (leb (length is) 63) t in
            ap (λ (o : Option Refusal). or_else (breach Bench (must (within 1 63 (length is)) EntryCount)) o) (composed_plainly (leb-true 1 (length is) w.0) (leb-true (length is) 63 w.1))
        | inr n ↦
            ap (λ (b : Bool). or_else (breach Bench (must b EntryCount)) (composed is)) n
            ∙ sym (ap (λ (b : Bool). or_else (breach Bench (must b EntryCount)) (refusal Composing (must (leb (length (vehicles_in is)) 63) TrainLength ∷ named_apart is ∷ []))) n)
      ]

-- a full book has room
module _ (is : List Item) (lines : AllByRecursion IsLine is) where
  abbrev count : Check
  count = must (leb (length is) 200) ConsistCount

  abbrev sum : Check
  sum = must (leb (length (vehicles_in is)) 2000) VehicleCount

  abbrev others : List Check
  others = each rising IdentityOrder (map identity_in is) ∷ each (alone names_apart) Repeated (map lines_vehicles is) ∷ []

  abbrev full : Check
  full = room_for (length (book_of is)) 38206

  late_room : length is ≤ 200 → length (vehicles_in is) ≤ 2000 → refusal Text (others ++ full ∷ []) ≡ refusal Text others
  late_room a b =
      let l = book_long is lines in
      refusal-joined Text others (full ∷ []) ∙ ap (or_else (refusal Text others)) (ok_first Text full [] (le-leb (length (book_of is)) 38206 (omega arith))) ∙ or_none (refusal Text others)

  pub import_plainly : refusal Text (list_checks is 38206) ≡ refusal Text (line_checks is)
  import_plainly =
      elim (cases_Bool (leb (length is) 200)) [
        | inl a ↦ elim (cases_Bool (leb (length (vehicles_in is)) 2000)) [
          | inl b ↦ ap (λ (o : Option Refusal). or_else (breach Text count) (or_else (breach Text sum) o)) (late_room (leb-true (length is) 200 a) (leb-true (length (vehicles_in is)) 2000 b))
          | inr b ↦
              ap (λ (x : Bool). or_else (breach Text count) (or_else (breach Text (must x VehicleCount)) (refusal Text (others ++ full ∷ [])))) b
              ∙ sym (ap (λ (x : Bool). or_else (breach Text count) (or_else (breach Text (must x VehicleCount)) (refusal Text others))) b)
        ]
        | inr a ↦
            ap (λ (x : Bool). or_else (breach Text (must x ConsistCount)) (or_else (breach Text sum) (refusal Text (others ++ full ∷ [])))) a
            ∙ sym (ap (λ (x : Bool). or_else (breach Text (must x ConsistCount)) (or_else (breach Text sum) (refusal Text others))) a)
      ]
