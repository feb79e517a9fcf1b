-- Rows of a book, and one row more in a loop over them.
use Rattle.std.specs.Prelude.{◌≡◌, ℕ, zero, suc, ◌+◌, ◌*◌, ◌<◌, ◌≤◌, Bool, true, false, cond, not, List, [], ◌∷◌, ◌++◌, length, take, drop, Some, None, Option, slice_index_or, refl}
use Rattle.std.proofs.Common.{sym, ap, ap₂, ◌∙◌, arith, suc-mul, add_comm}
use Rattle.std.specs.List.{sum_by}
use Rattle.std.proofs.lemmas.List.Sums.{sum_by-cons}
use Rattle.std.specs.Str.{bytes_eq}
use Rattle.std.proofs.lemmas.List.{length-append, drop_more, drop-drop, take_more, at_drop_more, at_drop_all, get_or-take, get_or-drop, length-take-le, length-drop, take_all}
use Rattle.train.specs.declared.refusal.Part.TheVariants.{Book}
use Rattle.train.specs.declared.refusal.Part.{Part}
use Rattle.train.specs.declared.refusal.Place.{Place}
use Rattle.train.specs.declared.refusal.Place.TheVariants.{At, InLine}
use Rattle.train.specs.declared.refusal.Reason.{Reason}
use Rattle.train.specs.declared.refusal.Reason.TheVariants.{Repeated}
use Rattle.train.specs.declared.refusal.Refusal.{Refusal}
use Rattle.train.specs.Refusals.{Check, Rule, first_breach, each, each_behind, breach, or_else, refusal, among, fresh, by}
use Rattle.train.proofs.Rules.{each_past, each_here, each_all, among_past, among_here, among_none}
use Rattle.fleet.specs.Rows.{rows, identity_of, size_of, name_of, last_identity, rises, ascending, sizes, behind, apart_checks}

module _ (w : ℕ) where
  pub length-rows : (n : ℕ) (bs : List ℕ) → length (rows w n bs) ≡ n
  length-rows zero bs = refl
  length-rows (suc n) bs = ap suc (length-rows n (drop w bs))

  pub rows_at : (n : ℕ) (bs : List ℕ) (i : ℕ) (d : List ℕ) → i < n → slice_index_or (rows w n bs) i d ≡ take w (drop (i * w) bs)
  rows_at zero bs i d h = absurd (omega arith)
  rows_at (suc n) bs zero d h = let z : 0 * w ≡ 0 = omega arith in rw z refl
  rows_at (suc n) bs (suc i) d h =
      let e : suc i * w ≡ w + i * w = suc-mul i w ∙ add_comm (i * w) w in
      rows_at n (drop w bs) i d (omega arith) ∙ ap (take w) (drop-drop (i * w) w bs ∙ ap (λ (k : ℕ). drop k bs) (sym e))

  pub in_rows : (n : ℕ) (bs : List ℕ) (i : ℕ) → i < n → i < length (rows w n bs)
  in_rows n bs i h = rw (length-rows n bs) h

-- a loop that checks row after row; `r` is the row at i, as the code has it
module _ (rule : Rule (List ℕ)) (reason : Reason) (w n : ℕ) (bs : List ℕ) (i : ℕ) where
  pub row_past : (r : List ℕ) → i < n → r ≡ slice_index_or (rows w n bs) i [] → true ≡ rule (take i (rows w n bs)) r
      → each_behind rule reason (take i (rows w n bs)) (drop i (rows w n bs)) ≡ each_behind rule reason (take (i + 1) (rows w n bs)) (drop (i + 1) (rows w n bs))
  row_past r h q e = each_past rule reason (rows w n bs) i r [] q (in_rows w n bs i h) (sym e)

  pub row_here : (r : List ℕ) → i < n → r ≡ slice_index_or (rows w n bs) i [] → false ≡ rule (take i (rows w n bs)) r
      → breach Book (each_behind rule reason (take i (rows w n bs)) (drop i (rows w n bs))) ≡ Some (record { part = Book; reason = reason; place = At (i + 1) })
  row_here r h q e = each_here rule reason (rows w n bs) i Book r [] q (in_rows w n bs i h) (sym e)

  pub row_all : n ≤ i → breach Book (each_behind rule reason (take i (rows w n bs)) (drop i (rows w n bs))) ≡ None
  row_all h = each_all rule reason (rows w n bs) i Book (rw (length-rows w n bs) h)

sizes-append : (xs ys : List (List ℕ)) → sizes (xs ++ ys) ≡ sizes xs + sizes ys
sizes-append [] ys = let z : sizes ys ≡ 0 + sizes ys = omega arith in z
sizes-append (x ∷ xs) ys = let h = sizes-append xs ys in omega arith

pub take-take : {A : Type 0} (j k : ℕ) (xs : List A) → j ≤ k → take j (take k xs) ≡ take j xs
take-take zero k xs h = refl
take-take (suc j) zero xs h = absurd (omega arith)
take-take (suc j) (suc k) [] h = refl
take-take (suc j) (suc k) (x ∷ xs) h = ap (λ ys. x ∷ ys) (take-take j k xs (omega arith))

-- the identity before
pub last_added : (before : List (List ℕ)) (x : List ℕ) → last_identity (before ++ x ∷ []) ≡ identity_of x
last_added [] x = refl
last_added (y ∷ []) x = refl
last_added (y ∷ z ∷ zs) x = last_added (z ∷ zs) x

module _ (n : ℕ) (bs : List ℕ) (i : ℕ) (r : List ℕ) (here : i < n) (is : r ≡ slice_index_or (rows 21 n bs) i []) where
  pub last_more : (id : List ℕ) → id ≡ identity_of r → id ≡ last_identity (take (i + 1) (rows 21 n bs))
  last_more id d =
      let l = in_rows 21 n bs i here in
      d ∙ ap identity_of is ∙ sym (ap last_identity (take_more (rows 21 n bs) i [] l) ∙ last_added (take i (rows 21 n bs)) (slice_index_or (rows 21 n bs) i []))

  pub rise_told : (prior id : List ℕ) (b : Bool) → prior ≡ last_identity (take i (rows 21 n bs)) → id ≡ identity_of r → b ≡ rises prior id → b ≡ ascending (take i (rows 21 n bs)) r
  rise_told prior id b p d e = e ∙ ap₂ rises p d

  -- the vehicles of the rows before i + 1
  pub sizes_more : sizes (take (i + 1) (rows 21 n bs)) ≡ sizes (take i (rows 21 n bs)) + size_of r
  sizes_more =
      let l = in_rows 21 n bs i here in
      let a = sizes-append (take i (rows 21 n bs)) (slice_index_or (rows 21 n bs) i [] ∷ []) in
      let b = ap sizes (take_more (rows 21 n bs) i [] l) in
      let s = ap size_of is in
      omega arith

pub sizes_whole : (n : ℕ) (bs : List ℕ) → sizes (take n (rows 21 n bs)) ≡ sizes (rows 21 n bs)
sizes_whole n bs = let l = length-rows 21 n bs in ap sizes (take_all n (rows 21 n bs) (omega arith))

-- a part of the vehicle rows: k rows behind `from` others
module _ (n : ℕ) (bs : List ℕ) (from k : ℕ) (fit : from + k ≤ n) where
  part_long : length (take k (drop from (rows 17 n bs))) ≡ k
  part_long =
      let l = length-drop from (rows 17 n bs) in
      let m = length-rows 17 n bs in
      length-take-le k (drop from (rows 17 n bs)) (omega arith)

  part_at : (j : ℕ) (r : List ℕ) → j < k → r ≡ slice_index_or (rows 17 n bs) (from + j) [] → r ≡ slice_index_or (take k (drop from (rows 17 n bs))) j []
  part_at j r h q = q ∙ sym (get_or-take k (drop from (rows 17 n bs)) j [] h ∙ get_or-drop from (rows 17 n bs) j [])

  -- the loop that looks for a name
  module _ (x : List ℕ) (j : ℕ) where
    pub name_past : (r : List ℕ) → j < k → r ≡ slice_index_or (rows 17 n bs) (from + j) [] → false ≡ bytes_eq (name_of x) (name_of r)
        → among (by bytes_eq name_of) x (drop j (take k (drop from (rows 17 n bs)))) ≡ among (by bytes_eq name_of) x (drop (j + 1) (take k (drop from (rows 17 n bs))))
    name_past r h q e = among_past (by bytes_eq name_of) x (take k (drop from (rows 17 n bs))) j r [] (part_at j r h q) (rw part_long h) (sym e)

    pub name_here : (r : List ℕ) → j < k → r ≡ slice_index_or (rows 17 n bs) (from + j) [] → true ≡ bytes_eq (name_of x) (name_of r)
        → among (by bytes_eq name_of) x (drop j (take k (drop from (rows 17 n bs)))) ≡ true
    name_here r h q e = among_here (by bytes_eq name_of) x (take k (drop from (rows 17 n bs))) j r [] (part_at j r h q) (rw part_long h) (sym e)

    pub name_none : k ≤ j → among (by bytes_eq name_of) x (drop j (take k (drop from (rows 17 n bs)))) ≡ false
    name_none h = among_none (by bytes_eq name_of) x (take k (drop from (rows 17 n bs))) j (rw part_long h)

  -- the loop over the names of one consist
  front : (j : ℕ) → j ≤ k → take j (take k (drop from (rows 17 n bs))) ≡ take j (drop from (rows 17 n bs))
  front j h = take-take j k (drop from (rows 17 n bs)) h

  told : (j : ℕ) (b : Bool) → j < k → b ≡ among (by bytes_eq name_of) (slice_index_or (rows 17 n bs) (from + j) []) (take j (drop from (rows 17 n bs)))
      → fresh (by bytes_eq name_of) (take j (take k (drop from (rows 17 n bs)))) (slice_index_or (rows 17 n bs) (from + j) []) ≡ not b
  told j b h e = ap (λ (ys : List (List ℕ)). fresh (by bytes_eq name_of) ys (slice_index_or (rows 17 n bs) (from + j) [])) (front j (omega arith)) ∙ ap not (sym e)

  pub apart_past : (j : ℕ) → j < k → false ≡ among (by bytes_eq name_of) (slice_index_or (rows 17 n bs) (from + j) []) (take j (drop from (rows 17 n bs)))
      → each_behind (fresh (by bytes_eq name_of)) Repeated (take j (take k (drop from (rows 17 n bs)))) (drop j (take k (drop from (rows 17 n bs))))
      ≡ each_behind (fresh (by bytes_eq name_of)) Repeated (take (j + 1) (take k (drop from (rows 17 n bs)))) (drop (j + 1) (take k (drop from (rows 17 n bs))))
  apart_past j h e =
      each_past (fresh (by bytes_eq name_of)) Repeated (take k (drop from (rows 17 n bs))) j (slice_index_or (rows 17 n bs) (from + j) []) [] (part_at j _ h refl) (rw part_long h) (told j false h e)

  pub apart_here : (j : ℕ) → j < k → true ≡ among (by bytes_eq name_of) (slice_index_or (rows 17 n bs) (from + j) []) (take j (drop from (rows 17 n bs)))
      → breach Book (behind from (each_behind (fresh (by bytes_eq name_of)) Repeated (take j (take k (drop from (rows 17 n bs)))) (drop j (take k (drop from (rows 17 n bs))))))
      ≡ Some (record { part = Book; reason = Repeated; place = At (from + (j + 1)) })
  apart_here j h e =
      let ws = take k (drop from (rows 17 n bs)) in
      let l : j < length (take k (drop from (rows 17 n bs))) = rw part_long h in
      let t : fresh (by bytes_eq name_of) (take j (take k (drop from (rows 17 n bs)))) (slice_index_or (take k (drop from (rows 17 n bs))) j []) ≡ false =
      ap (fresh (by bytes_eq name_of) (take j ws)) (sym (part_at j (slice_index_or (rows 17 n bs) (from + j) []) h refl)) ∙ told j true h e in
      let m : length (take j (take k (drop from (rows 17 n bs)))) ≡ j = length-take-le j ws (omega arith) in
      rw (drop_more (take k (drop from (rows 17 n bs))) j [], t, m)

  pub apart_all : (j : ℕ) → k ≤ j → breach Book (behind from (each_behind (fresh (by bytes_eq name_of)) Repeated (take j (take k (drop from (rows 17 n bs)))) (drop j (take k (drop from (rows 17 n bs)))))) ≡ None
  apart_all j h =
      at_drop_all (λ ws. breach Book (behind from (each_behind (fresh (by bytes_eq name_of)) Repeated (take j (take k (drop from (rows 17 n bs)))) ws))) (take k (drop from (rows 17 n bs))) j (rw part_long h)

pub sizes_is : (rs : List (List ℕ)) → sum_by size_of rs ≡ sizes rs
sizes_is [] = refl
sizes_is (r ∷ rs) = sum_by-cons size_of r rs ∙ ap (λ (n : ℕ). size_of r + n) (sizes_is rs)

-- a loop over the consists, whose vehicles begin the rest: one consist more
module _ (rs vs : List (List ℕ)) (from i s : ℕ) (r : List ℕ) (here : i < length rs) (is : r ≡ slice_index_or rs i []) (size : s ≡ size_of r) where
  pub sizes_past : sizes (drop i rs) ≡ s + sizes (drop (i + 1) rs)
  sizes_past = at_drop_more sizes rs i [] here ∙ ap (λ (n : ℕ). n + sizes (drop (i + 1) rs)) (ap size_of (sym is) ∙ sym size)

  apart_step : refusal Book (apart_checks from (drop i rs) vs)
      ≡ or_else (breach Book (behind from (each (fresh (by bytes_eq name_of)) Repeated (take s vs)))) (refusal Book (apart_checks (from + s) (drop (i + 1) rs) (drop s vs)))
  apart_step =
      let q : size_of (slice_index_or rs i []) ≡ s = ap size_of (sym is) ∙ sym size in
      at_drop_more (λ es. refusal Book (apart_checks from es vs)) rs i [] here ∙ rw q refl

  pub consist_past : None ≡ breach Book (behind from (each (fresh (by bytes_eq name_of)) Repeated (take s vs)))
      → refusal Book (apart_checks from (drop i rs) vs) ≡ refusal Book (apart_checks (from + s) (drop (i + 1) rs) (drop s vs))
  consist_past e = apart_step ∙ ap (λ (o : Option Refusal). or_else o (refusal Book (apart_checks (from + s) (drop (i + 1) rs) (drop s vs)))) (sym e)

  pub consist_here : (x : Refusal) → Some x ≡ breach Book (behind from (each (fresh (by bytes_eq name_of)) Repeated (take s vs)))
      → refusal Book (apart_checks from (drop i rs) vs) ≡ Some x
  consist_here x e = apart_step ∙ ap (λ (o : Option Refusal). or_else o (refusal Book (apart_checks (from + s) (drop (i + 1) rs) (drop s vs)))) (sym e)

pub consists_all : (rs vs : List (List ℕ)) (from i : ℕ) → length rs ≤ i → refusal Book (apart_checks from (drop i rs) vs) ≡ None
consists_all rs vs from i h = at_drop_all (λ es. refusal Book (apart_checks from es vs)) rs i h

-- the place of a breach is one of the list's
first_breach-le : {A : Type 0} (rule : Rule A) (before xs : List A) → first_breach rule before xs ≤ length before + length xs
first_breach-le rule before [] = omega arith
first_breach-le rule before (x ∷ xs) =
    let l = first_breach-le rule (before ++ x ∷ []) xs in
    let m = length-append before (x ∷ []) in
    by (rule before x) (omega arith)
  where
    by : (b : Bool) → first_breach rule (before ++ x ∷ []) xs ≤ length before + suc (length xs) → cond b (first_breach rule (before ++ x ∷ []) xs) (length before + 1) ≤ length before + suc (length xs)
    by true l = l
    by false l = omega arith

breach_place : (part : Part) (c : Check) (b : Bool) (r : Refusal) (p : ℕ) → c.ok ≡ b → Some r ≡ breach part c → r.place ≡ At p → c.place ≡ At p
breach_place part c true r p e h q = let k = rw e at h in let z : ◌≡◌ {A = ℕ} 0 1 = cc in absurd (omega (arith, z))
breach_place part c false r p e h q = let k = rw e at h in cc

at_of : Place → ℕ
at_of (At p) = p
at_of (InLine l b) = 0

pub breach_within : {A : Type 0} (part : Part) (rule : Rule A) (reason : Reason) (xs : List A) (r : Refusal) (p : ℕ) → Some r ≡ breach part (each rule reason xs) → r.place ≡ At p → p ≤ length xs
unfolding at_of
breach_within part rule reason xs r p h q =
    let e : first_breach rule [] xs ≡ p = ap at_of (breach_place part (each rule reason xs) _ r p refl h q) in
    let l = first_breach-le rule [] xs in
    omega (arith, e, l)
