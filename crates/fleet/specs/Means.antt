-- What a book means at an identity, and its names.
use Rattle.std.specs.Prelude.{◌≡◌, ℕ, zero, suc, ◌+◌, ◌-◌, ◌*◌, ◌<◌, ◌≤◌, Bool, true, false, cond, List, [], ◌∷◌, ◌++◌, map, length, get_or, take, drop, Some, None, Option, ◌≢◌, slice_index_or, refl}
use Rattle.std.proofs.Common.{sym, ap, ap₂, ◌∙◌, inl, inr, arith}
use Rattle.std.specs.List.{AllByRecursion, slice_get}
use Rattle.std.specs.Str.{bytes_eq}
use Rattle.std.proofs.ByRecursion.{All-weaker}
use Rattle.std.proofs.lemmas.Slice.Eq.{bytes_eq-Decides}
use Rattle.std.proofs.lemmas.List.{take-append-drop, map-append, drop-drop, length-map, length-take-le, length-drop, get_or-map, get_or-take, get_or-drop}
use Rattle.std.proofs.lemmas.Option.{slice_get-get_or, slice_get_past}
use Rattle.std.proofs.lemmas.Bool.{cases_Bool}
use Rattle.train.specs.declared.entries.Vehicle.{Vehicle}
use Rattle.train.specs.declared.identity.Identity.{Identity}
use Rattle.train.specs.Octets.{below}
use Rattle.train.proofs.Bytes.{below_trans, below_total}
use Rattle.fleet.specs.declared.questions.Found.{Found}
use Rattle.fleet.specs.Fleets.{Consist, Lawful, found_in, vehicles_of, vehicle_in}
use Rattle.fleet.specs.Rows.{rows, counter_of, size_of, name_of, sizes}
use Rattle.fleet.specs.Seeks.{find, is_at, place_of}
use Rattle.fleet.specs.Books.{count_of, entries_of, tail_of, total_of, table_of, Item, meaning_of, vehicle_of, item_of, listed, fleet_of, vehicles_in, name_in, name_at, IsItem, Rising}
use Rattle.fleet.specs.Heads.{never}
use Rattle.fleet.specs.Entries.{rows_at, take-take}
use Rattle.fleet.specs.Halves.{same_self, above_apart}
use Rattle.fleet.specs.Readings.{none_left}

-- the fleet of the bytes, by their parts
pub held_is : (bs entries table : List ℕ) (count total : ℕ) → count ≡ count_of bs → entries ≡ entries_of bs → total ≡ total_of bs → table ≡ table_of bs
    → fleet_of bs ≡ listed (rows 21 count entries) (rows 17 total table)
held_is bs entries table count total c e t v = ap₂ listed (ap₂ (rows 21) (sym c) (sym e)) (ap₂ (rows 17) (sym t) (sym v))

-- the consist at a place
abbrev consist_at : List (List ℕ) → List (List ℕ) → ℕ → Consist
consist_at es vs i = (item_of (slice_index_or es i []) (take (size_of (slice_index_or es i [])) (drop (sizes (take i es)) vs))).consist

module _ {A : Type 0} (test : A → Bool) where
  ge_go : (b : Bool) (n k : ℕ) (o : Option ℕ) → cond b (Some n) o ≡ Some k → (o ≡ Some k → n + 1 ≤ k) → n ≤ k
  ge_go true n k o e f = let q : n ≡ k = cc in omega arith
  ge_go false n k o e f = let q = f e in omega arith

  pub find_ge : (n : ℕ) (xs : List A) (k : ℕ) → find test n xs ≡ Some k → n ≤ k
  find_ge n [] k e = never k (sym e)
  find_ge n (x ∷ xs) k e = ge_go (test x) n k (find test (n + 1) xs) e (λ q. find_ge (n + 1) xs k q)

pub none_go : {A : Type 0} (b : Bool) (n : ℕ) (o : Option ℕ) (c : A) (m : Option A) → cond b (Some n) o ≡ None → (o ≡ None → m ≡ None) → cond b (Some c) m ≡ None
none_go true n o c m e f = never n e
none_go false n o c m e f = f e

pub at_go : {A : Type 0} (b : Bool) (n i : ℕ) (o : Option ℕ) (c d : A) (m : Option A) → cond b (Some n) o ≡ Some (n + i) → (i ≡ 0 → c ≡ d) → (o ≡ Some (n + i) → m ≡ Some d) → cond b (Some c) m ≡ Some d
at_go true n i o c d m e f g = let q : n ≡ n + i = cc in ap (λ x. Some x) (f (omega arith))
at_go false n i o c d m e f g = g e

module _ (id : Identity) where
  pub meaning_none : (n : ℕ) (es vs : List (List ℕ)) → place_of id.bytes n es ≡ None → meaning_of (listed es vs) id ≡ None
  meaning_none n [] vs e = refl
  meaning_none n (r ∷ es) vs e =
      none_go (is_at id.bytes r) n (place_of id.bytes (n + 1) es) _ _ e (λ q. meaning_none (n + 1) es (drop (size_of r) vs) q)

  meaning_at : (n : ℕ) (es vs : List (List ℕ)) (i : ℕ) → place_of id.bytes n es ≡ Some (n + i) → meaning_of (listed es vs) id ≡ Some (consist_at es vs i)
  meaning_at n [] vs i e = never (n + i) (sym e)
  meaning_at n (r ∷ es) vs zero e =
      at_go (is_at id.bytes r) n 0 (place_of id.bytes (n + 1) es) _ (consist_at (r ∷ es) vs 0) _ e (λ q. refl) (λ q. let g = find_ge (is_at id.bytes) (n + 1) es (n + 0) q in absurd (omega arith))
  meaning_at n (r ∷ es) vs (suc i) e =
      let d = drop-drop (sizes (take i es)) (size_of r) vs in
      let z : n + suc i ≡ n + 1 + i = omega arith in
      at_go (is_at id.bytes r) n (suc i) (place_of id.bytes (n + 1) es) _ (consist_at (r ∷ es) vs (suc i)) _ e (λ q. absurd (omega arith))
      (λ q. meaning_at (n + 1) es (drop (size_of r) vs) i (q ∙ ap (λ (x : ℕ). Some x) z) ∙ ap (λ (x : List (List ℕ)). Some (item_of (slice_index_or es i []) (take (size_of (slice_index_or es i [])) x)).consist) d)

-- the vehicles of an entry lie within the table
pub sizes_in : (es : List (List ℕ)) (i : ℕ) → i < length es → sizes (take i es) + size_of (slice_index_or es i []) ≤ sizes es
sizes_in [] i h = absurd (omega arith)
sizes_in (e ∷ es) zero h = omega arith
sizes_in (e ∷ es) (suc i) h = let g = sizes_in es i (omega arith) in omega arith

-- what is answered for the entry at i, whose row is `r`
module _ (es vs : List (List ℕ)) (id : Identity) (i : ℕ) (s : sizes es ≡ length vs) (h : i < length es) (e : Some i ≡ place_of id.bytes 0 es) (r : List ℕ) (q : r ≡ slice_index_or es i []) where
  at_is : meaning_of (listed es vs) id ≡ Some (consist_at es vs i)
  at_is = let z : i ≡ 0 + i = omega arith in meaning_at id 0 es vs i (sym e ∙ ap (λ (x : ℕ). Some x) z)

  part : length (take (size_of (slice_index_or es i [])) (drop (sizes (take i es)) vs)) ≡ size_of (slice_index_or es i [])
  part =
      let a = sizes_in es i h in
      let l = length-drop (sizes (take i es)) vs in
      length-take-le (size_of (slice_index_or es i [])) (drop (sizes (take i es)) vs) (omega arith)

  pub found_at : (c k : ℕ) → c ≡ counter_of r → k ≡ size_of r → Some (record { counter = c; count = k }) ≡ found_in (meaning_of (listed es vs) id)
  found_at c k a b =
      let n = length-map (take (size_of (slice_index_or es i [])) (drop (sizes (take i es)) vs)) vehicle_of ∙ part in
      ap₂ (λ (x y : ℕ). let f : Option Found = Some (record { counter = x; count = y }) in f) (a ∙ ap counter_of q) (b ∙ ap size_of q ∙ sym n) ∙ sym (ap found_in at_is)

  pub vehicle_past : (k : ℕ) → size_of r < k → None ≡ vehicle_in (meaning_of (listed es vs) id) k
  vehicle_past zero l = refl
  vehicle_past (suc k) l =
      let n = length-map (take (size_of (slice_index_or es i [])) (drop (sizes (take i es)) vs)) vehicle_of ∙ part in
      let t = ap size_of q in
      sym (ap (λ o. slice_get (vehicles_of o) k) at_is ∙ slice_get_past (consist_at es vs i).vehicles k (omega arith))

  pub vehicle_at : (k : ℕ) (w : List ℕ) → (k ≢ 0) → k ≤ size_of r → w ≡ slice_index_or vs (sizes (take i es) + (k - 1)) [] → Some (vehicle_of w) ≡ vehicle_in (meaning_of (listed es vs) id) k
  vehicle_at zero w z l y = absurd (z refl)
  vehicle_at (suc k) w z l y =
      let t = ap size_of q in
      let p = part in
      let n = length-map (take (size_of (slice_index_or es i [])) (drop (sizes (take i es)) vs)) vehicle_of in
      let b : k < size_of (slice_index_or es i []) = omega arith in
      let u : k < length (take (size_of (slice_index_or es i [])) (drop (sizes (take i es)) vs)) = omega arith in
      let x : suc k - 1 ≡ k = omega arith in
      let g : get_or (take (size_of (slice_index_or es i [])) (drop (sizes (take i es)) vs)) k [] ≡ w =
      get_or-take (size_of (slice_index_or es i [])) (drop (sizes (take i es)) vs) k [] b ∙ get_or-drop (sizes (take i es)) vs k [] ∙ ap (λ (j : ℕ). get_or vs (sizes (take i es) + j) []) (sym x) ∙ sym y in
      sym (ap (λ o. slice_get (vehicles_of o) k) at_is
      ∙ slice_get-get_or (consist_at es vs i).vehicles k (vehicle_of w) (omega arith)
      ∙ ap (λ (v : Vehicle). Some v) (get_or-map vehicle_of (take (size_of (slice_index_or es i [])) (drop (sizes (take i es)) vs)) k [] (vehicle_of w) u ∙ ap vehicle_of g))

pub vehicle_zeroth : (o : Option Consist) (k : ℕ) → k ≡ 0 → None ≡ vehicle_in o k
vehicle_zeroth o zero e = refl
vehicle_zeroth o (suc k) e = absurd (omega (arith, e))

pub vehicle_none : (o : Option Consist) (k : ℕ) → o ≡ None → None ≡ vehicle_in o k
vehicle_none o zero e = refl
vehicle_none o (suc k) e = sym (ap (λ x. slice_get (vehicles_of x) k) e)

pub vehicle_zero : (o : Option Consist) (k : ℕ) → k ≡ 0 → None ≡ vehicle_in o k
vehicle_zero o zero e = refl
vehicle_zero o (suc k) e = absurd (omega arith)

meant_go : (b : Bool) (c : Consist) (o : Option Consist) → Lawful (Some c) → Lawful o → Lawful (cond b (Some c) o)
meant_go true c o h k = h
meant_go false c o h k = k

pub meant_lawful : (is : List Item) (id : Identity) → AllByRecursion IsItem is → Lawful (meaning_of is id)
meant_lawful [] id h = tt
meant_lawful (i ∷ is) id h = meant_go _ i.consist (meaning_of is id) h.0.consist (meant_lawful is id h.1)

-- the vehicles of a book, one after another
pub vehicles_are : (es vs : List (List ℕ)) → sizes es ≡ length vs → vehicles_in (listed es vs) ≡ map vehicle_of vs
vehicles_are [] vs s = ap (map vehicle_of) (none_left vs s)
vehicles_are (r ∷ es) vs s =
    let l = length-drop (size_of r) vs in
    ap (λ (x : List Vehicle). map vehicle_of (take (size_of r) vs) ++ x) (vehicles_are es (drop (size_of r) vs) (omega arith))
    ∙ sym (map-append vehicle_of (take (size_of r) vs) (drop (size_of r) vs))
    ∙ ap (map vehicle_of) (take-append-drop (size_of r) vs)

pub name_past : (es vs : List (List ℕ)) (k : ℕ) → sizes es ≡ length vs → length vs < k → name_at (listed es vs) k ≡ None
name_past es vs zero s h = refl
name_past es vs (suc k) s h =
    let m = length-map vs vehicle_of in
    ap (λ (x : List Vehicle). name_in (slice_get x k)) (vehicles_are es vs s) ∙ ap name_in (slice_get_past (map vehicle_of vs) k (omega arith))

pub name_here : (es vs : List (List ℕ)) (k : ℕ) (r nm : List ℕ) → sizes es ≡ length vs → (k ≢ 0) → k ≤ length vs → r ≡ slice_index_or vs (k - 1) [] → nm ≡ name_of r → name_at (listed es vs) k ≡ Some nm
name_here es vs zero r nm s z h q e = absurd (z refl)
name_here es vs (suc k) r nm s z h q e =
    let m = length-map vs vehicle_of in
    let x : suc k - 1 ≡ k = omega arith in
    let l : k < length vs = omega arith in
    let g : get_or vs k [] ≡ r = ap (λ (j : ℕ). get_or vs j []) (sym x) ∙ sym q in
    ap (λ (y : List Vehicle). name_in (slice_get y k)) (vehicles_are es vs s)
    ∙ ap name_in (slice_get-get_or (map vehicle_of vs) k (vehicle_of r) (omega arith) ∙ ap (λ (v : Vehicle). Some v) (get_or-map vehicle_of vs k [] (vehicle_of r) l ∙ ap vehicle_of g))
    ∙ ap (λ (y : List ℕ). Some y) (sym e)

-- where the i-th name stands in the bytes
pub name_lent : (bs table : List ℕ) (count total i offset : ℕ) (r nm : List ℕ) → table ≡ table_of bs → count ≡ count_of bs → i < total → offset ≡ 6 + 21 * count + 17 * i
    → r ≡ slice_index_or (rows 17 total table) i [] → nm ≡ name_of r → nm ≡ take 16 (drop offset bs)
name_lent bs table count total i offset r nm t c h o q e =
    let m = i * 17 in
    let d = count_of bs * 21 in
    let z : 4 + (d + (2 + m)) ≡ offset = omega arith in
    let l : 16 ≤ 17 = omega arith in
    e ∙ ap name_of (q ∙ rows_at 17 total table i [] h)
    ∙ take-take 16 17 (drop m table) l
    ∙ ap (λ (x : List ℕ). take 16 (drop m x)) t
    ∙ ap (take 16) (drop-drop m 2 (tail_of bs) ∙ drop-drop (2 + m) d (drop 4 bs) ∙ drop-drop (d + (2 + m)) 4 bs ∙ ap (λ (n : ℕ). drop n bs) z)

-- two fleets in rising order with one meaning are one fleet
absent : (id : Identity) (is : List Item) → AllByRecursion (λ i. below id.bytes i.identity.bytes ≡ true) is → meaning_of is id ≡ None
absent id [] h = refl
absent id (i ∷ is) h = let e = above_apart id.bytes i.identity.bytes h.0 in rw e (absent id is h.1)

present : (i : Item) (is : List Item) → meaning_of (i ∷ is) i.identity ≡ Some i.consist
present i is = let e = same_self i.identity.bytes in rw e

lesser : (i j : Item) (is js : List Item) → Rising (j ∷ js) → below i.identity.bytes j.identity.bytes ≡ true → meaning_of (i ∷ is) i.identity ≢ meaning_of (j ∷ js) i.identity
lesser i j is js p h m =
    let a : AllByRecursion (λ x. below i.identity.bytes x.identity.bytes ≡ true) (j ∷ js) =
    (h, All-weaker (λ x. below j.identity.bytes x.identity.bytes ≡ true) (λ x. below i.identity.bytes x.identity.bytes ≡ true) (λ x k. below_trans i.identity.bytes j.identity.bytes x.identity.bytes h k) js p.0) in
    never i.consist (sym (present i is) ∙ m ∙ absent i.identity (j ∷ js) a)

abbrev consist_of : Option Consist → Consist → Consist
consist_of None d = d
consist_of (Some c) d = c

moved : (a b : List ℕ) (is : List Item) → a ≡ b → AllByRecursion (λ x. below a x.identity.bytes ≡ true) is → AllByRecursion (λ x. below b x.identity.bytes ≡ true) is
moved a b is e h = All-weaker (λ x. below a x.identity.bytes ≡ true) (λ x. below b x.identity.bytes ≡ true) (λ x k. ap (λ (y : List ℕ). below y x.identity.bytes) (sym e) ∙ k) is h

tails : (i j : Item) (is js : List Item) → Rising (i ∷ is) → Rising (j ∷ js) → i.identity.bytes ≡ j.identity.bytes → ((id : Identity) → meaning_of (i ∷ is) id ≡ meaning_of (j ∷ js) id) → (id : Identity) → meaning_of is id ≡ meaning_of js id
tails i j is js p q e m id =
    elim (cases_Bool (bytes_eq i.identity.bytes id.bytes)) [
      | inl t ↦
          let a : i.identity.bytes ≡ id.bytes = (bytes_eq-Decides i.identity.bytes id.bytes).0 t in
          absent id is (moved i.identity.bytes id.bytes is a p.0) ∙ sym (absent id js (moved j.identity.bytes id.bytes js (sym e ∙ a) q.0))
      | inr t ↦
          let u : bytes_eq j.identity.bytes id.bytes ≡ false = ap (λ (x : List ℕ). bytes_eq x id.bytes) (sym e) ∙ t in
          sym (skip i is id t) ∙ m id ∙ skip j js id u
    ]
  where
    skip : (i : Item) (is : List Item) (id : Identity) → bytes_eq i.identity.bytes id.bytes ≡ false → meaning_of (i ∷ is) id ≡ meaning_of is id
    skip i is id t = rw t

pub one_fleet : (is js : List Item) → Rising is → Rising js → ((id : Identity) → meaning_of is id ≡ meaning_of js id) → is ≡ js
one_fleet [] [] p q m = refl
one_fleet [] (j ∷ js) p q m = never j.consist (sym (present j js) ∙ sym (m j.identity))
one_fleet (i ∷ is) [] p q m = never i.consist (sym (present i is) ∙ m i.identity)
one_fleet (i ∷ is) (j ∷ js) p q m =
    elim (below_total i.identity.bytes j.identity.bytes) [
      | inl h ↦ absurd (lesser i j is js q h (m i.identity))
      | inr r ↦ elim r [
        | inl e ↦
            let u : bytes_eq j.identity.bytes i.identity.bytes ≡ true = ap (bytes_eq j.identity.bytes) e ∙ same_self j.identity.bytes in
            let c : i.consist ≡ j.consist = ap (λ o. consist_of o i.consist) (sym (present i is) ∙ m i.identity ∙ here j js i.identity u) in
            ap₂ (λ (x : Item) (xs : List Item). x ∷ xs)
            (ap₂ (λ (b : List ℕ) (k : Consist). let t : Item = record { identity = record { bytes = b }; consist = k } in t) e c)
            (one_fleet is js p.1 q.1 (tails i j is js p q e m))
        | inr h ↦ absurd (lesser j i js is p h (sym (m j.identity)))
      ]
    ]
  where
    here : (j : Item) (js : List Item) (id : Identity) → bytes_eq j.identity.bytes id.bytes ≡ true → meaning_of (j ∷ js) id ≡ Some j.consist
    here j js id u = rw u
