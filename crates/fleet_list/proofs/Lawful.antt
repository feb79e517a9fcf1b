-- The checks of import: lines that meet them are a fleet, and a fleet meets them.
use Rattle.std.proofs.Common.{◌≡◌, ℕ, ◌+◌, ◌*◌, ◌≤◌, Bool, true, false, cond, ◌||◌, leb, List, [], ◌∷◌, ◌++◌, map, length, Some, None, sym, refl, ap, ◌∙◌, subst, ap₂, arith, length-append}
use Rattle.std.specs.List.{AllByRecursion}
use Rattle.std.specs.Str.{bytes_eq}
use Rattle.std.proofs.lemmas.Bool.{and_parts, and_from, or_parts, not-true, not_from_false, le-leb}
use Rattle.train.specs.declared.entries.Vehicle.{Vehicle}
use Rattle.train.specs.declared.refusal.Part.TheVariants.{Text}
use Rattle.train.specs.declared.refusal.Reason.TheVariants.{ConsistCount, VehicleCount, IdentityOrder, Repeated}
use Rattle.train.specs.Octets.{below, zeros}
use Rattle.train.specs.Refusals.{Check, or_else, must, each, alone, keeps, fresh, by, among, refusal}
use Rattle.train.proofs.Bytes.{below_trans}
use Rattle.fleet.specs.Fleets.{IsVehicle, Apart}
use Rattle.fleet.specs.Books.{Item, IsItem, IsFleet, Rising, vehicles_in, book_of, flat, item_row, vehicle_row, two, four}
use Rattle.fleet.specs.Halves.{differ, differs}
use Rattle.fleet.specs.Heads.{first_met, none_first}
use Rattle.fleet.specs.Writings.{name_long}
use Rattle.fleet_list.specs.Lists.{IsLine}
use Rattle.fleet_list.specs.Imports.{identity_in, vehicles_of, rising, names_apart, room_for, line_checks, list_checks}
use Rattle.fleet_list.proofs.BookRows.{row_long}
use Rattle.train.proofs.Rules.{last_added}
use Rattle.train.specs.Identities.{last_identity}

pub all_map : {A : Type 0} (P Q : A → Type 0) → ((x : A) → P x → Q x) → (xs : List A) → AllByRecursion P xs → AllByRecursion Q xs
all_map P Q f [] h = tt
all_map P Q f (x ∷ xs) h = (f x h.0, all_map P Q f xs h.1)

all_both : {A : Type 0} (P Q R : A → Type 0) → ((x : A) → P x → Q x → R x) → (xs : List A) → AllByRecursion P xs → AllByRecursion Q xs → AllByRecursion R xs
all_both P Q R f [] h k = tt
all_both P Q R f (x ∷ xs) h k = (f x h.0 k.0, all_both P Q R f xs h.1 k.1)

all_of : {A : Type 0} (P : A → Type 0) → ((x : A) → P x) → (xs : List A) → AllByRecursion P xs
all_of P f [] = tt
all_of P f (x ∷ xs) = (f x, all_of P f xs)

pub all_append : {A : Type 0} (P : A → Type 0) (xs ys : List A) → AllByRecursion P xs → AllByRecursion P ys → AllByRecursion P (xs ++ ys)
all_append P [] ys h k = k
all_append P (x ∷ xs) ys h k = (h.0, all_append P xs ys h.1 k)

-- identities rise

abbrev Above : List ℕ → Item → Type 0
Above prior i = below prior (identity_in i) ≡ true

abbrev Real : Item → Type 0
Real i = bytes_eq (identity_in i) zeros ≡ false

rises_by : (before : List (List ℕ)) (is : List Item) → keeps rising before (map identity_in is) ≡ true → AllByRecursion (Above (last_identity (λ id. id) before)) is × Rising is × AllByRecursion Real is
rises_by before [] h = (tt, tt, tt)
rises_by before (i ∷ is) h =
    let p = and_parts _ _ h in
    let q = and_parts _ _ p.0 in
    let r = rises_by (before ++ identity_in i ∷ []) is p.1 in
    let above = subst (λ z. AllByRecursion (Above z) is) (last_added (λ id. id) before (identity_in i)) r.0 in
    ((q.1, all_map (Above (identity_in i)) (Above (last_identity (λ id. id) before)) (λ j l. below_trans (last_identity (λ id. id) before) (identity_in i) (identity_in j) q.1 l) is above), (above, r.1), (not-true _ q.0, r.2))

rises_back : (before : List (List ℕ)) (is : List Item) → AllByRecursion (Above (last_identity (λ id. id) before)) is → Rising is → AllByRecursion Real is → keeps rising before (map identity_in is) ≡ true
rises_back before [] a r n = refl
rises_back before (i ∷ is) a r n =
    and_from _ _ (and_from _ _ (not_from_false _ n.0) a.0)
    (rises_back (before ++ identity_in i ∷ []) is (subst (λ z. AllByRecursion (Above z) is) (sym (last_added (λ id. id) before (identity_in i))) r.0) r.1 n.1)

above_none : (bs : List ℕ) → length bs ≡ 16 → below [] bs ≡ true
above_none [] e = absurd (omega arith)
above_none (b ∷ bs) e = refl

-- names apart

abbrev alike : Vehicle → Vehicle → Bool
alike = by bytes_eq (λ v. v.name.bytes)

abbrev Absent : List Vehicle → Vehicle → Type 0
Absent before w = among alike w before ≡ false

among_push : (x : Vehicle) (ys : List Vehicle) (y : Vehicle) → among alike x (ys ++ y ∷ []) ≡ (among alike x ys || alike x y)
among_push x [] y = orr (alike x y)
  where
    orr : (b : Bool) → (b || false) ≡ b
    orr true = refl
    orr false = refl
among_push x (z ∷ ys) y = ap (λ b. alike x z || b) (among_push x ys y) ∙ assoc (alike x z) (among alike x ys) (alike x y)
  where
    assoc : (a b c : Bool) → (a || (b || c)) ≡ ((a || b) || c)
    assoc true b c = refl
    assoc false b c = refl

apart_by : (before vs : List Vehicle) → keeps (fresh alike) before vs ≡ true → AllByRecursion (Absent before) vs × Apart vs
apart_by before [] h = (tt, tt)
apart_by before (v ∷ vs) h =
    let p = and_parts _ _ h in
    let r = apart_by (before ++ v ∷ []) vs p.1 in
    let both = all_map (Absent (before ++ v ∷ [])) (λ w. Absent before w × (alike w v ≡ false)) (λ w e. or_parts _ _ (sym (among_push w before v) ∙ e)) vs r.0 in (
      (not-true _ p.0, all_map (λ w. Absent before w × (alike w v ≡ false)) (Absent before) (λ w e. e.0) vs both),
      (all_map (λ w. Absent before w × (alike w v ≡ false)) (λ w. v.name.bytes ≡ w.name.bytes → ⊥) (λ w e q. differs w.name.bytes v.name.bytes e.1 (sym q)) vs both, r.1),
    )

apart_back : (before vs : List Vehicle) → AllByRecursion (Absent before) vs → Apart vs → keeps (fresh alike) before vs ≡ true
apart_back before [] a p = refl
apart_back before (v ∷ vs) a p =
    and_from _ _ (not_from_false _ a.0)
    (apart_back (before ++ v ∷ []) vs
    (all_both (Absent before) (λ w. v.name.bytes ≡ w.name.bytes → ⊥) (Absent (before ++ v ∷ []))
    (λ w e n. among_push w before v ∙ ap₂ (λ x y. x || y) e (differ w.name.bytes v.name.bytes (λ q. n (sym q)))) vs a.1 p.0)
    p.1)

apart_is : (vs : List Vehicle) → Apart vs → names_apart vs ≡ true
apart_is vs p = apart_back [] vs (all_of (Absent []) (λ w. refl) vs) p

alone_by : (before : List (List Vehicle)) (is : List Item) → keeps (alone names_apart) before (map vehicles_of is) ≡ true → AllByRecursion (λ i. names_apart (vehicles_of i) ≡ true) is
alone_by before [] h = tt
alone_by before (i ∷ is) h = let p = and_parts _ _ h in (p.0, alone_by (before ++ vehicles_of i ∷ []) is p.1)

alone_back : (before : List (List Vehicle)) (is : List Item) → AllByRecursion (λ i. names_apart (vehicles_of i) ≡ true) is → keeps (alone names_apart) before (map vehicles_of is) ≡ true
alone_back before [] h = refl
alone_back before (i ∷ is) h = and_from _ _ h.0 (alone_back (before ++ vehicles_of i ∷ []) is h.1)

-- lines that meet the checks are a fleet

item : (i : Item) → IsLine i → Real i × (names_apart (vehicles_of i) ≡ true) → IsItem i
item i l h = record {
  whole = l.whole;
  real = h.0;
  consist = record { counted = l.counted; fits = l.fits; some = l.some; few = l.few; each = l.each; apart = (apart_by [] (vehicles_of i) h.1).1 };
}

pub lawful : (is : List Item) (room : ℕ) → AllByRecursion IsLine is → length is ≤ 200 → length (vehicles_in is) ≤ 2000 → refusal Text (line_checks is room) ≡ None → IsFleet is
lawful is room l few small h =
    let a = first_met Text (each rising IdentityOrder (map identity_in is)) _ h in
    let b = first_met Text (each (alone names_apart) Repeated (map vehicles_of is)) _ a.1 in
    let r = rises_by [] is a.0 in
    let n = alone_by [] is b.0 in
    record {
      short = few;
      small = small;
      rising = r.1;
      each = all_both IsLine (λ i. Real i × (names_apart (vehicles_of i) ≡ true)) IsItem item is l (all_both Real (λ i. names_apart (vehicles_of i) ≡ true) (λ i. Real i × (names_apart (vehicles_of i) ≡ true)) (λ i x y. (x, y)) is r.2 n);
    }

-- and a fleet meets all checks but that of the room
pub only_room : (is : List Item) (room : ℕ) → IsFleet is → refusal Text (list_checks is room) ≡ refusal Text (room_for (length (book_of is)) room ∷ [])
only_room is room f =
    let rise = each rising IdentityOrder (map identity_in is) in
    let once = each (alone names_apart) Repeated (map vehicles_of is) in
    let fits = room_for (length (book_of is)) room in
    ok_first (must (leb (length is) 200) ConsistCount) (must (leb (length (vehicles_in is)) 2000) VehicleCount ∷ rise ∷ once ∷ fits ∷ []) (le-leb (length is) 200 f.short)
    ∙ ok_first (must (leb (length (vehicles_in is)) 2000) VehicleCount) (rise ∷ once ∷ fits ∷ []) (le-leb (length (vehicles_in is)) 2000 f.small)
    ∙ ok_first rise (once ∷ fits ∷ [])
    (rises_back [] is (all_map IsItem (Above []) (λ i g. above_none (identity_in i) g.whole) is f.each) f.rising (all_map IsItem Real (λ i g. g.real) is f.each))
    ∙ ok_first once (fits ∷ []) (alone_back [] is (all_map IsItem (λ i. names_apart (vehicles_of i) ≡ true) (λ i g. apart_is (vehicles_of i) g.consist.apart) is f.each))
  where
    ok_first : (c : Check) (cs : List Check) → c.ok ≡ true → refusal Text (c ∷ cs) ≡ refusal Text cs
    ok_first c cs e = ap (λ b. or_else (cond b None (Some (record { part = Text; reason = c.reason; place = c.place }))) (refusal Text cs)) e

pub passes : (is : List Item) (room : ℕ) → IsFleet is → length (book_of is) ≤ room → refusal Text (list_checks is room) ≡ None
passes is room f l = only_room is room f ∙ none_first Text (room_for (length (book_of is)) room) [] (le-leb (length (book_of is)) room l) refl

-- the length of a book

rows_long : (is : List Item) → AllByRecursion IsLine is → length (flat (map item_row is)) ≡ 21 * length is
rows_long [] l = refl
rows_long (i ∷ is) l =
    let b = four i.consist.counter ++ (length i.consist.vehicles ∷ []) in
    omega (arith, length-append (item_row i) (flat (map item_row is)), length-append i.identity.bytes b, l.0.whole, rows_long is l.1)

vehicles_long : (vs : List Vehicle) → AllByRecursion IsVehicle vs → length (flat (map vehicle_row vs)) ≡ 17 * length vs
vehicles_long [] l = refl
vehicles_long (v ∷ vs) l = omega (arith, length-append (vehicle_row v) (flat (map vehicle_row vs)), row_long v, name_long v.name.bytes l.0.named, vehicles_long vs l.1)

all_vehicles : (is : List Item) → AllByRecursion IsLine is → AllByRecursion IsVehicle (vehicles_in is)
all_vehicles [] l = tt
all_vehicles (i ∷ is) l = all_append IsVehicle (vehicles_of i) (vehicles_in is) l.0.each (all_vehicles is l.1)

pub book_long : (is : List Item) → AllByRecursion IsLine is → length (book_of is) ≡ 6 + 21 * length is + 17 * length (vehicles_in is)
book_long is l =
    let a = flat (map item_row is) in
    let b = flat (map vehicle_row (vehicles_in is)) in
    let c = two (length (vehicles_in is)) ++ b in
    omega (arith, length-append a c, rows_long is l, vehicles_long (vehicles_in is) (all_vehicles is l))
