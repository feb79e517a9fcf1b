-- The rows that a fleet is written as pass the checks, and are read as that fleet.
use Rattle.std.specs.Prelude.{◌≡◌, ℕ, ◌+◌, ◌-◌, ◌≤◌, true, false, not, ◌&&◌, ◌||◌, List, [], ◌∷◌, ◌++◌, map, length, take, drop, replicate, None, ◌==◌, ◌≢◌, nat_le, slice_index, refl}
use Rattle.std.proofs.Common.{sym, ap, ap₂, subst, ◌∙◌, arith}
use Rattle.std.specs.List.{AllByRecursion}
use Rattle.std.specs.Str.{bytes_eq}
use Rattle.std.proofs.lemmas.List.{take_at, drop_at, length-append, length-map, map-append, get_or-append_right, length-replicate}
use Rattle.std.proofs.ByRecursion.{All-append}
use Rattle.std.proofs.lemmas.Bool.Decides.{nat_tests}
use Rattle.train.specs.declared.entries.Vehicle.{Vehicle}
use Rattle.train.specs.declared.facing.Facing.{Facing}
use Rattle.train.specs.declared.facing.Facing.TheVariants.{NotKnown, Direct, Inverse}
use Rattle.train.specs.declared.refusal.Part.TheVariants.{Book}
use Rattle.train.specs.declared.refusal.Reason.TheVariants.{Repeated}
use Rattle.train.specs.Facings.{code, known}
use Rattle.train.specs.Names.{IsName, well_formed}
use Rattle.train.specs.Octets.{below, zeros}
use Rattle.train.specs.Refusals.{refusal, keeps, each, alone, fresh, by}
use Rattle.train.proofs.Bytes.{nowhere}
use Rattle.train.proofs.Names.{name_rule}
use Rattle.fleet.specs.Fleets.{Pairs, IsVehicle, Apart}
use Rattle.fleet.specs.Rows.{identity_of, counter_of, size_of, name_of, facing_byte, ascending, counted, sized, sizes, named, faced, behind, apart_checks, entry_checks}
use Rattle.fleet.specs.Books.{Item, facing_of, vehicle_of, item_of, listed, four, vehicle_row, item_row, vehicles_in, IsItem, Rising}
use Rattle.fleet.specs.Numbers.{of_four}
use Rattle.fleet.specs.Heads.{none_first}
use Rattle.fleet.specs.Kept.{all_alone, pairs_fresh, pairs_unmapped}
use Rattle.fleet.specs.Halves.{Under, ascends}

-- a field of a row, past the sixteen bytes
past : (id x : List ℕ) (k : ℕ) → length id ≡ 16 → 16 ≤ k → slice_index (id ++ x) k ≡ slice_index x (k - 16)
past id x k l h = get_or-append_right id x 16 k 0 l h

module _ (i : Item) (l : length i.identity.bytes ≡ 16) where
  pub row_identity : identity_of (item_row i) ≡ i.identity.bytes
  row_identity = take_at i.identity.bytes _ 16 l

  at : (k : ℕ) → 16 ≤ k → slice_index (item_row i) k ≡ slice_index (four i.consist.counter ++ (length i.consist.vehicles ∷ [])) (k - 16)
  at k h = past i.identity.bytes (four i.consist.counter ++ (length i.consist.vehicles ∷ [])) k l h

  pub row_counter : counter_of (item_row i) ≡ i.consist.counter
  row_counter =
      let a = at 16 (omega arith) in
      let b = at 17 (omega arith) in
      let c = at 18 (omega arith) in
      let d = at 19 (omega arith) in
      let o = of_four i.consist.counter in
      omega arith

  pub row_size : size_of (item_row i) ≡ length i.consist.vehicles
  row_size = at 20 (omega arith)

  pub row_long : length (item_row i) ≡ 21
  row_long =
      length-append i.identity.bytes (four i.consist.counter ++ (length i.consist.vehicles ∷ [])) ∙ ap (λ (n : ℕ). n + 5) l

facing_back : (f : Facing) → known f ≡ true → facing_of (code f) ≡ f
facing_back NotKnown h = nowhere h
facing_back Direct h = refl
facing_back Inverse h = refl

facing_good : (f : Facing) → known f ≡ true → (code f == 1) || (code f == 2) ≡ true
facing_good NotKnown h = nowhere h
facing_good Direct h = refl
facing_good Inverse h = refl

-- a name has sixteen bytes
pub name_long : (bs : List ℕ) → IsName bs → length bs ≡ 16
name_long bs n =
    let t = n.text in
    let f = n.few in
    let a = length-append t (replicate (16 - length t) 0) in
    let r = length-replicate {A = ℕ} (16 - length t) 0 in
    ap length n.whole ∙ omega arith

module _ (v : Vehicle) (g : IsVehicle v) where
  line_name : name_of (vehicle_row v) ≡ v.name.bytes
  line_name = take_at v.name.bytes _ 16 (name_long v.name.bytes g.named)

  line_facing : facing_byte (vehicle_row v) ≡ code v.facing
  line_facing = past v.name.bytes (code v.facing ∷ []) 16 (name_long v.name.bytes g.named) (omega arith)

  line_back : vehicle_of (vehicle_row v) ≡ v
  line_back =
      ap₂ (λ (b : List ℕ) (f : Facing). let w : Vehicle = record { name = record { bytes = b }; facing = f } in w) line_name (ap facing_of line_facing ∙ facing_back v.facing g.faced)

  line_named : named (vehicle_row v) ≡ true
  line_named = ap well_formed line_name ∙ (name_rule v.name.bytes).1 g.named

  line_faced : faced (vehicle_row v) ≡ true
  line_faced = ap (λ (b : ℕ). (b == 1) || b == 2) line_facing ∙ facing_good v.facing g.faced

  line_long : length (vehicle_row v) ≡ 17
  line_long = length-append v.name.bytes (code v.facing ∷ []) ∙ ap (λ (n : ℕ). n + 1) (name_long v.name.bytes g.named)

lines_are : (vs : List Vehicle) → AllByRecursion IsVehicle vs → map vehicle_of (map vehicle_row vs) ≡ vs
lines_are [] h = refl
lines_are (v ∷ vs) h = ap₂ (λ x y. x ∷ y) (line_back v h.0) (lines_are vs h.1)

some_counter : (n : ℕ) → 1 ≤ n → not (n == 0) ≡ true
some_counter n h = grind (arith, nat_tests)

some_size : (n : ℕ) → 1 ≤ n → n ≤ 32 → nat_le 1 n && nat_le n 32 ≡ true
some_size n h k = grind (arith, nat_tests)

module _ (i : Item) (g : IsItem i) (rest : List Vehicle) where
  front : take (size_of (item_row i)) (map vehicle_row (i.consist.vehicles ++ rest)) ≡ map vehicle_row i.consist.vehicles
  front =
      ap₂ take (row_size i g.whole) (map-append vehicle_row i.consist.vehicles rest)
      ∙ take_at (map vehicle_row i.consist.vehicles) (map vehicle_row rest) (length i.consist.vehicles) (length-map i.consist.vehicles vehicle_row)

  after : drop (size_of (item_row i)) (map vehicle_row (i.consist.vehicles ++ rest)) ≡ map vehicle_row rest
  after =
      ap₂ drop (row_size i g.whole) (map-append vehicle_row i.consist.vehicles rest)
      ∙ drop_at (map vehicle_row i.consist.vehicles) (map vehicle_row rest) (length i.consist.vehicles) (length-map i.consist.vehicles vehicle_row)

  item_is : item_of (item_row i) (take (size_of (item_row i)) (map vehicle_row (i.consist.vehicles ++ rest))) ≡ i
  item_is =
      let v : map vehicle_of (take (size_of (item_row i)) (map vehicle_row (i.consist.vehicles ++ rest))) ≡ i.consist.vehicles =
      ap (map vehicle_of) front ∙ lines_are i.consist.vehicles g.consist.each in
      ap (λ (x : List Vehicle). let t : Item = record { identity = record { bytes = identity_of (item_row i) }; consist = record { counter = counter_of (item_row i); vehicles = x } } in t) v
      ∙ ap₂ (λ (x : List ℕ) (n : ℕ). let t : Item = record { identity = record { bytes = x }; consist = record { counter = n; vehicles = i.consist.vehicles } } in t) (row_identity i g.whole) (row_counter i g.whole)

  item_apart : keeps (fresh (by bytes_eq name_of)) [] (take (size_of (item_row i)) (map vehicle_row (i.consist.vehicles ++ rest))) ≡ true
  item_apart =
      let a : Apart (map vehicle_of (map vehicle_row i.consist.vehicles)) = subst Apart (sym (lines_are i.consist.vehicles g.consist.each)) g.consist.apart in
      ap (keeps (fresh (by bytes_eq name_of)) []) front
      ∙ pairs_fresh name_of (map vehicle_row i.consist.vehicles) (pairs_unmapped vehicle_of (λ v w. v.name.bytes ≢ w.name.bytes) (map vehicle_row i.consist.vehicles) a)

item_counted : (i : Item) → IsItem i → counted (item_row i) ≡ true
item_counted i g = ap (λ (n : ℕ). not (n == 0)) (row_counter i g.whole) ∙ some_counter i.consist.counter g.consist.counted

item_sized : (i : Item) → IsItem i → sized (item_row i) ≡ true
item_sized i g =
    ap (λ (n : ℕ). nat_le 1 n && nat_le n 32) (row_size i g.whole) ∙ some_size (length i.consist.vehicles) g.consist.some g.consist.few

pub written_is : (is : List Item) → AllByRecursion IsItem is → listed (map item_row is) (map vehicle_row (vehicles_in is)) ≡ is
written_is [] h = refl
written_is (i ∷ is) h =
    ap₂ (λ x y. x ∷ y) (item_is i h.0 (vehicles_in is)) (ap (listed (map item_row is)) (after i h.0 (vehicles_in is)) ∙ written_is is h.1)

written_apart : (n : ℕ) (is : List Item) → AllByRecursion IsItem is → refusal Book (apart_checks n (map item_row is) (map vehicle_row (vehicles_in is))) ≡ None
written_apart n [] h = refl
written_apart n (i ∷ is) h =
    none_first Book
    (behind n (each (fresh (by bytes_eq name_of)) Repeated (take (size_of (item_row i)) (map vehicle_row (i.consist.vehicles ++ vehicles_in is)))))
    (apart_checks (n + size_of (item_row i)) (map item_row is) (drop (size_of (item_row i)) (map vehicle_row (i.consist.vehicles ++ vehicles_in is))))
    (item_apart i h.0 (vehicles_in is))
    (ap (λ vs. refusal Book (apart_checks (n + size_of (item_row i)) (map item_row is) vs)) (after i h.0 (vehicles_in is)) ∙ written_apart (n + size_of (item_row i)) is h.1)

of_items : (P : List ℕ → Type 0) → ((i : Item) → IsItem i → P (item_row i)) → (is : List Item) → AllByRecursion IsItem is → AllByRecursion P (map item_row is)
of_items P f [] h = tt
of_items P f (i ∷ is) h = (f i h.0, of_items P f is h.1)

of_lines : (P : List ℕ → Type 0) → ((v : Vehicle) → IsVehicle v → P (vehicle_row v)) → (vs : List Vehicle) → AllByRecursion IsVehicle vs → AllByRecursion P (map vehicle_row vs)
of_lines P f [] h = tt
of_lines P f (v ∷ vs) h = (f v h.0, of_lines P f vs h.1)

-- rising identities, of the rows
above_rows : (x y : List ℕ) → x ≡ y → (is : List Item) → AllByRecursion IsItem is → AllByRecursion (λ j. below y j.identity.bytes ≡ true) is → AllByRecursion (λ r. below x (identity_of r) ≡ true) (map item_row is)
above_rows x y e [] h a = tt
above_rows x y e (i ∷ is) h a = (ap₂ below e (row_identity i h.0.whole) ∙ a.0, above_rows x y e is h.1 a.1)

written_pairs : (is : List Item) → AllByRecursion IsItem is → Rising is → Pairs Under (map item_row is)
written_pairs [] h p = tt
written_pairs (i ∷ is) h p = (above_rows (identity_of (item_row i)) i.identity.bytes (row_identity i h.0.whole) is h.1 p.0, written_pairs is h.1 p.1)

-- every identity stands above no bytes at all
first_rows : (is : List Item) → AllByRecursion IsItem is → AllByRecursion (λ r. below [] (identity_of r) ≡ true) (map item_row is)
first_rows is h = of_items (λ r. below [] (identity_of r) ≡ true) (λ i g. ap (below []) (row_identity i g.whole) ∙ some i.identity.bytes g.whole) is h
  where
    some : (bs : List ℕ) → length bs ≡ 16 → below [] bs ≡ true
    some [] l = absurd (omega arith)
    some (b ∷ bs) l = refl

written_sizes : (is : List Item) → AllByRecursion IsItem is → sizes (map item_row is) ≡ length (vehicles_in is)
written_sizes [] h = refl
written_sizes (i ∷ is) h =
    let a = row_size i h.0.whole in
    let b = written_sizes is h.1 in
    let c = length-append i.consist.vehicles (vehicles_in is) in
    omega arith

all_vehicles : (is : List Item) → AllByRecursion IsItem is → AllByRecursion IsVehicle (vehicles_in is)
all_vehicles [] h = tt
all_vehicles (i ∷ is) h = All-append IsVehicle i.consist.vehicles (vehicles_in is) h.0.consist.each (all_vehicles is h.1)

same_number : (m n : ℕ) → m ≡ n → (m == n) ≡ true
same_number m n e = grind (arith, nat_tests)

-- all checks of the entries are met
all_met : (es : List (List ℕ)) (v : ℕ) (vs : List (List ℕ)) → keeps ascending [] es ≡ true → keeps (alone counted) [] es ≡ true → keeps (alone sized) [] es ≡ true → (sizes es == v) ≡ true
    → keeps (alone named) [] vs ≡ true → keeps (alone faced) [] vs ≡ true → refusal Book (apart_checks 0 es vs) ≡ None → refusal Book (entry_checks es v vs) ≡ None
all_met es v vs a b c d e f g = rw (a, b, c, d, e, f) g

pub written_passes : (is : List Item) → Rising is → AllByRecursion IsItem is → refusal Book (entry_checks (map item_row is) (length (vehicles_in is)) (map vehicle_row (vehicles_in is))) ≡ None
written_passes is r h =
    let es = map item_row is in
    let vs = map vehicle_row (vehicles_in is) in
    let v = all_vehicles is h in
    all_met es (length (vehicles_in is)) vs
    (ascends [] es (first_rows is h) (written_pairs is h r) (of_items (λ x. bytes_eq (identity_of x) zeros ≡ false) (λ i g. ap (λ (b : List ℕ). bytes_eq b zeros) (row_identity i g.whole) ∙ g.real) is h))
    (all_alone counted [] es (of_items (λ x. counted x ≡ true) item_counted is h))
    (all_alone sized [] es (of_items (λ x. sized x ≡ true) item_sized is h))
    (same_number (sizes es) (length (vehicles_in is)) (written_sizes is h))
    (all_alone named [] vs (of_lines (λ x. named x ≡ true) line_named (vehicles_in is) v))
    (all_alone faced [] vs (of_lines (λ x. faced x ≡ true) line_faced (vehicles_in is) v))
    (written_apart 0 is h)

pub written_long : (is : List Item) → AllByRecursion IsItem is → AllByRecursion (λ r. length r ≡ 21) (map item_row is)
written_long is h = of_items (λ x. length x ≡ 21) (λ i g. row_long i g.whole) is h

pub written_lines : (is : List Item) → AllByRecursion IsItem is → AllByRecursion (λ r. length r ≡ 17) (map vehicle_row (vehicles_in is))
written_lines is h = of_lines (λ x. length x ≡ 17) line_long (vehicles_in is) (all_vehicles is h)
