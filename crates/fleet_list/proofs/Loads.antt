-- The rows of a book in tables, and the fleet that the tables then hold.
use Rattle.std.proofs.Common.{◌≡◌, ℕ, ◌+◌, ◌-◌, ◌*◌, ◌/◌, List, [], ◌∷◌, ◌++◌, map, length, get_or, take, drop, sym, refl, ap, ◌∙◌, ap₂, arith, length-drop, length-take-le}
use Rattle.std.proofs.lemmas.List.{take_all, take_at, take-map, drop-map, take_rest}
use Rattle.train.specs.declared.entries.Vehicle.{Vehicle}
use Rattle.fleet.specs.Books.{listed, vehicle_of, count_of, total_of, entries_of, tail_of, table_of, consist_rows, vehicle_rows}
use Rattle.fleet.specs.Rows.{rows, size_of, sizes}
use Rattle.fleet.specs.Entries.{length-rows}
use Rattle.fleet_list.specs.declared.tables.Head.{Head}
use Rattle.fleet_list.specs.Entries.{head_of, IsLong, Loaded}
use Rattle.fleet_list.specs.Tables.{gathered, counts}
use Rattle.fleet_list.proofs.Four.{length-map}

-- what the rows of a book mean, from the tables
pub rows-listed : (es vs : List (List ℕ)) → gathered (map head_of es) (map vehicle_of vs) ≡ listed es vs
rows-listed [] vs = refl
rows-listed (e ∷ es) vs =
    ap₂ (λ x y. record { identity = record { bytes = Rattle.fleet.specs.Rows.identity_of e }; consist = record { counter = Rattle.fleet.specs.Rows.counter_of e; vehicles = x } } ∷ y) (take-map vehicle_of (size_of e) vs)
    (ap (gathered (map head_of es)) (drop-map vehicle_of (size_of e) vs) ∙ rows-listed es (drop (size_of e) vs))

pub rows_counts : (es : List (List ℕ)) → counts (map head_of es) ≡ sizes es
rows_counts [] = refl
rows_counts (e ∷ es) = ap (λ n. size_of e + n) (rows_counts es)

pub loaded : (bs : List ℕ) (heads : List Head) (vehicles : List Vehicle) (count total : ℕ) → IsLong bs → count ≡ count_of bs → total ≡ total_of bs
    → take count heads ≡ map head_of (consist_rows bs) → take total vehicles ≡ map vehicle_of (vehicle_rows bs) → Loaded bs heads vehicles count total
loaded bs heads vehicles count total g ec et eh ev = record {
  few = omega (arith, g.few, ec);
  small = omega (arith, g.small, et);
  sum = ap counts eh ∙ rows_counts (consist_rows bs) ∙ g.sum ∙ sym et;
  items = ap₂ gathered eh ev ∙ rows-listed (consist_rows bs) (vehicle_rows bs);
}

-- what is read of rows, at the front of a table
pub front_read : {B : Type 0} (w n k m : ℕ) (f : List ℕ → B) (bs : List ℕ) (hs : List (List ℕ)) (last post : List B) → k ≡ n → m ≡ k → hs ≡ rows w n bs → last ≡ map f (take m hs) → take k (last ++ post) ≡ map f (rows w n bs)
front_read w n k m f bs hs last post ek em eh el =
    let l : length (rows w n bs) ≡ n = length-rows w n bs in
    let all : last ≡ map f (rows w n bs) = el ∙ ap₂ (λ j zs. map f (take j zs)) (em ∙ ek) eh ∙ ap (map f) (take_all n (rows w n bs) (omega (arith, l))) in
    take_at last post k (ap length all ∙ length-map f (rows w n bs) ∙ l ∙ sym ek) ∙ all

-- the parts of a book as the reader cuts them
module _ (bs entries tail : List ℕ) (g : IsLong bs) (ee : entries ≡ take (count_of bs * 21) (take (length bs - 4) (drop 4 bs))) (et : tail ≡ drop (count_of bs * 21) (take (length bs - 4) (drop 4 bs))) where
  entries_are : entries ≡ entries_of bs
  entries_are = ee ∙ ap (take (count_of bs * 21)) (take_rest bs 4)

  tail_is : tail ≡ tail_of bs
  tail_is = et ∙ ap (drop (count_of bs * 21)) (take_rest bs 4)

  table_is : take (length tail - 2) (drop 2 tail) ≡ table_of bs
  table_is = take_rest tail 2 ∙ ap (drop 2) tail_is

  pub total_is : get_or tail 0 0 * 256 + get_or tail 1 0 ≡ total_of bs
  total_is = ap (λ z. get_or z 0 0 * 256 + get_or z 1 0) tail_is

  pub heads_cut : rows 21 (length entries / 21) entries ≡ consist_rows bs
  heads_cut =
      let l = length-take-le (count_of bs * 21) (drop 4 bs) (omega (arith, g.long, length-drop 4 bs)) in
      let n : length entries / 21 ≡ count_of bs = omega (arith, ap length entries_are, l) in
      ap₂ (rows 21) n entries_are

  table_long : length (table_of bs) ≡ 17 * total_of bs
  table_long = omega (arith, length-drop 2 (tail_of bs), length-drop (count_of bs * 21) (drop 4 bs), length-drop 4 bs, g.long)

  pub vehicles_cut : rows 17 (length (take (length tail - 2) (drop 2 tail)) / 17) (take (length tail - 2) (drop 2 tail)) ≡ vehicle_rows bs
  vehicles_cut =
      let n : length (take (length tail - 2) (drop 2 tail)) / 17 ≡ total_of bs = omega (arith, ap length table_is, table_long) in
      ap₂ (rows 17) n table_is
