-- The bytes that are accepted are the books of fleets, and are read as those.
use Rattle.std.specs.Prelude.{◌≡◌, ℕ, ◌+◌, ◌*◌, ◌<◌, ◌≤◌, true, false, List, [], ◌∷◌, ◌++◌, map, length, drop, is_some, Some, None, Option, ◌==◌, nat_le, slice_index, slice_index_or, refl}
use Rattle.std.proofs.Common.{sym, ap, ap₂, ◌∙◌, arith, drop-cons}
use Rattle.std.specs.List.{AllByRecursion}
use Rattle.std.specs.Str.{bytes_eq}
use Rattle.std.proofs.ByRecursion.{All-take, All-drop, All-get_or}
use Rattle.std.proofs.lemmas.List.{take_at, drop_at, take-append-drop, length-append, length-map, length-drop, length-take-le}
use Rattle.std.proofs.lemmas.Bool.{and_parts, leb-true, eqb-true}
use Rattle.train.specs.declared.identity.Identity.{Identity}
use Rattle.train.specs.declared.refusal.Part.TheVariants.{Book}
use Rattle.train.specs.declared.refusal.Reason.TheVariants.{BookHead, ConsistCount, VehicleCount, IdentityOrder, ZeroCounter, EntryCount, VehicleSum, NameForm, UnknownFacing}
use Rattle.train.specs.declared.refusal.Refusal.{Refusal}
use Rattle.train.specs.Octets.{zeros}
use Rattle.train.specs.Refusals.{refusal, keeps, must, each, alone, or_else}
use Rattle.train.proofs.Rules.{refusal-joined}
use Rattle.fleet.specs.Fleets.{Lawful}
use Rattle.fleet.specs.Bytes.{Bytes, bytes_in}
use Rattle.fleet.specs.Rows.{rows, identity_of, ascending, counted, sized, sizes, named, faced, apart_checks, entry_checks}
use Rattle.fleet.specs.Books.{count_of, entries_of, tail_of, total_of, table_of, consist_rows, vehicle_rows, headed, reaching, fitting, head_checks, book_checks, Item, meaning_of, listed, fleet_of, two, item_row, vehicle_row, vehicles_in, flat, book_of, IsItem, IsFleet, IsBook, Opened, NoBook}
use Rattle.fleet.specs.Cuts.{Cut}
use Rattle.fleet.specs.Heads.{never, first_met, head_fits}
use Rattle.fleet.specs.Entries.{length-rows}
use Rattle.fleet.specs.Numbers.{two_of, of_two}
use Rattle.fleet.specs.Flats.{rows_long, rows_bytes, rows_flat, flat_rows, length-flat, bytes_are, bytes_told}
use Rattle.fleet.specs.Kept.{alone_all}
use Rattle.fleet.specs.Halves.{ascent}
use Rattle.fleet.specs.Readings.{GoodEntry, GoodLine, length-listed, read_rising, read_lawful, read_entries, read_lines}
use Rattle.fleet.specs.Writings.{written_is, written_passes, written_long, written_lines}
use Rattle.fleet.specs.Means.{meant_lawful, one_fleet}

pub record Headed (bs : List ℕ) : Type 0 where
  pub four : 4 ≤ length bs
  pub one : slice_index_or bs 0 0 ≡ 1
  pub none : slice_index_or bs 1 0 ≡ 0
  pub few : count_of bs ≤ 200
  pub small : total_of bs ≤ 2000
  pub long : length bs ≡ 6 + 21 * count_of bs + 17 * total_of bs

head_told : (bs : List ℕ) → headed bs ≡ true → reaching bs ≡ true → fitting bs ≡ true → Headed bs
head_told bs t u v =
    let h = and_parts (nat_le 4 (length bs)) _ t in
    let k = and_parts (slice_index bs 0 == 1) (slice_index bs 1 == 0) h.1 in
    let r = and_parts (nat_le (count_of bs) 200) _ u in
    let f = and_parts (nat_le (total_of bs) 2000) (length bs == 6 + 21 * count_of bs + 17 * total_of bs) v in
    record {
      four = leb-true 4 (length bs) h.0;
      one = eqb-true (slice_index bs 0) 1 k.0;
      none = eqb-true (slice_index bs 1) 0 k.1;
      few = leb-true (count_of bs) 200 r.0;
      small = leb-true (total_of bs) 2000 f.0;
      long = eqb-true (length bs) (6 + 21 * count_of bs + 17 * total_of bs) f.1;
    }

-- what the checks of the entries say, where none refuses
pub record Passed (es : List (List ℕ)) (v : ℕ) (vs : List (List ℕ)) : Type 0 where
  pub rising : keeps ascending [] es ≡ true
  pub counters : AllByRecursion (λ e. counted e ≡ true) es
  pub sizes_fit : AllByRecursion (λ e. sized e ≡ true) es
  pub sum : sizes es ≡ v
  pub names : AllByRecursion (λ r. named r ≡ true) vs
  pub facings : AllByRecursion (λ r. faced r ≡ true) vs
  pub apart : refusal Book (apart_checks 0 es vs) ≡ None

pub passed : (es : List (List ℕ)) (v : ℕ) (vs : List (List ℕ)) → refusal Book (entry_checks es v vs) ≡ None → Passed es v vs
passed es v vs e =
    let a = first_met Book (each ascending IdentityOrder es) _ e in
    let b = first_met Book (each (alone counted) ZeroCounter es) _ a.1 in
    let c = first_met Book (each (alone sized) EntryCount es) _ b.1 in
    let d = first_met Book (must (sizes es == v) VehicleSum) _ c.1 in
    let f = first_met Book (each (alone named) NameForm vs) _ d.1 in
    let g = first_met Book (each (alone faced) UnknownFacing vs) _ f.1 in
    record {
      rising = a.0;
      counters = alone_all counted [] es b.0;
      sizes_fit = alone_all sized [] es c.0;
      sum = eqb-true (sizes es) v d.0;
      names = alone_all named [] vs f.0;
      facings = alone_all faced [] vs g.0;
      apart = g.1;
    }

good_entries : (es : List (List ℕ)) → AllByRecursion (λ r. length r ≡ 21) es → AllByRecursion Bytes es → AllByRecursion (λ r. bytes_eq (identity_of r) zeros ≡ false) es → AllByRecursion (λ r. counted r ≡ true) es → AllByRecursion (λ r. sized r ≡ true) es → AllByRecursion GoodEntry es
good_entries [] l b z c s = tt
good_entries (e ∷ es) l b z c s =
    (record { long = l.0; bytes = b.0; real = z.0; counter = c.0; size = s.0 }, good_entries es l.1 b.1 z.1 c.1 s.1)

good_lines : (vs : List (List ℕ)) → AllByRecursion (λ r. length r ≡ 17) vs → AllByRecursion (λ r. named r ≡ true) vs → AllByRecursion (λ r. faced r ≡ true) vs → AllByRecursion GoodLine vs
good_lines [] l n f = tt
good_lines (v ∷ vs) l n f = (record { long = l.0; name = n.0; facing = f.0 }, good_lines vs l.1 n.1 f.1)

-- entries that pass, of two parts of the right length
module _ (es vs : List ℕ) (c v : ℕ) (l : length es ≡ c * 21) (m : length vs ≡ v * 17) (b : Bytes es) (e : refusal Book (entry_checks (rows 21 c es) v (rows 17 v vs)) ≡ None) where
  part_entries : AllByRecursion GoodEntry (rows 21 c es)
  part_entries =
      let p = passed (rows 21 c es) v (rows 17 v vs) e in
      good_entries (rows 21 c es) (rows_long 21 c es (omega arith)) (rows_bytes 21 c es b) (ascent [] (rows 21 c es) p.rising).real p.counters p.sizes_fit

  part_lines : AllByRecursion GoodLine (rows 17 v vs)
  part_lines =
      let p = passed (rows 21 c es) v (rows 17 v vs) e in
      good_lines (rows 17 v vs) (rows_long 17 v vs (omega arith)) p.names p.facings

  part_sizes : sizes (rows 21 c es) ≡ length (rows 17 v vs)
  part_sizes = (passed (rows 21 c es) v (rows 17 v vs) e).sum ∙ sym (length-rows 17 v vs)

  part_lawful : AllByRecursion IsItem (listed (rows 21 c es) (rows 17 v vs))
  part_lawful = read_lawful 0 (rows 21 c es) (rows 17 v vs) part_entries part_lines part_sizes (passed (rows 21 c es) v (rows 17 v vs) e).apart

  part_count : length (listed (rows 21 c es) (rows 17 v vs)) ≡ c
  part_count = length-listed (rows 21 c es) (rows 17 v vs) ∙ length-rows 21 c es

  part_total : length (vehicles_in (listed (rows 21 c es) (rows 17 v vs))) ≡ v
  part_total =
      sym (length-map (vehicles_in (listed (rows 21 c es) (rows 17 v vs))) vehicle_row)
      ∙ ap length (read_lines (rows 21 c es) (rows 17 v vs) part_lines part_sizes)
      ∙ length-rows 17 v vs

  part_book : book_of (listed (rows 21 c es) (rows 17 v vs)) ≡ 1 ∷ 0 ∷ (two c ++ (es ++ (two v ++ vs)))
  part_book =
      let x : flat (map item_row (listed (rows 21 c es) (rows 17 v vs))) ≡ es = ap flat (read_entries (rows 21 c es) (rows 17 v vs) part_entries part_sizes) ∙ rows_flat 21 c es l in
      let y : flat (map vehicle_row (vehicles_in (listed (rows 21 c es) (rows 17 v vs)))) ≡ vs = ap flat (read_lines (rows 21 c es) (rows 17 v vs) part_lines part_sizes) ∙ rows_flat 17 v vs m in
      let p = part_count in
      let q = part_total in
      rw (x, y, p, q)

pub not_some : {A : Type 0} (o : Option A) → is_some o ≡ false → o ≡ None
not_some None e = refl
not_some (Some x) e = let z : ◌≡◌ {A = ℕ} 0 1 = cc in absurd (omega arith)

-- what an opened book means is lawful
pub rows_lawful : (es vs : List ℕ) (c v : ℕ) → length es ≡ c * 21 → length vs ≡ v * 17 → bytes_in es ≡ true → is_some (refusal Book (entry_checks (rows 21 c es) v (rows 17 v vs))) ≡ false
    → (id : Identity) → Lawful (meaning_of (listed (rows 21 c es) (rows 17 v vs)) id)
rows_lawful es vs c v l m b e id = meant_lawful (listed (rows 21 c es) (rows 17 v vs)) id (part_lawful es vs c v l m (bytes_are es b) (not_some _ e))

-- the bytes, from their parts
taken_parts : (bs : List ℕ) → Bytes bs → Headed bs → 1 ∷ 0 ∷ (two (count_of bs) ++ (entries_of bs ++ (two (total_of bs) ++ table_of bs))) ≡ bs
taken_parts bs y h =
    let f = h.four in
    let g = h.long in
    let d = length-drop 4 bs in
    let n = length-drop (count_of bs * 21) (drop 4 bs) in
    let b3 : slice_index_or bs 3 0 < 256 = All-get_or (λ b. b < 256) bs 3 0 (omega arith) y in
    let yt : Bytes (tail_of bs) = All-drop (λ b. b < 256) (count_of bs * 21) (drop 4 bs) (All-drop (λ b. b < 256) 4 bs y) in
    let t1 : slice_index_or (tail_of bs) 1 0 < 256 = All-get_or (λ b. b < 256) (tail_of bs) 1 0 (omega arith) yt in
    let i0 : 0 < length bs = omega arith in let i1 : 1 < length bs = omega arith in let i2 : 2 < length bs = omega arith in let i3 : 3 < length bs = omega arith in
    let j0 : 0 < length (tail_of bs) = omega arith in let j1 : 1 < length (tail_of bs) = omega arith in
    let tail : two (total_of bs) ++ table_of bs ≡ tail_of bs =
    ap (λ (x : List ℕ). x ++ table_of bs) (two_of (slice_index (tail_of bs) 0) (slice_index (tail_of bs) 1) t1)
    ∙ sym (drop-cons (tail_of bs) 0 0 j0 ∙ ap (λ (x : List ℕ). slice_index (tail_of bs) 0 ∷ x) (drop-cons (tail_of bs) 1 0 j1)) in
    let rest : entries_of bs ++ (two (total_of bs) ++ table_of bs) ≡ drop 4 bs = ap (λ (x : List ℕ). entries_of bs ++ x) tail ∙ take-append-drop (count_of bs * 21) (drop 4 bs) in
    let o = h.one in
    let z = h.none in
    ap₂ (λ (x r : List ℕ). 1 ∷ 0 ∷ (x ++ r)) (two_of (slice_index bs 2) (slice_index bs 3) b3) rest
    ∙ ap₂ (λ (a b : ℕ). a ∷ b ∷ slice_index bs 2 ∷ slice_index bs 3 ∷ drop 4 bs) (sym o) (sym z)
    ∙ sym (drop-cons bs 0 0 i0 ∙ ap (λ (x : List ℕ). slice_index bs 0 ∷ x) (drop-cons bs 1 0 i1 ∙ ap (λ (x : List ℕ). slice_index bs 1 ∷ x) (drop-cons bs 2 0 i2 ∙ ap (λ (x : List ℕ). slice_index bs 2 ∷ x) (drop-cons bs 3 0 i3))))

-- checks of the head and of the entries, where none refuses
both : (bs : List ℕ) → refusal Book (book_checks bs) ≡ None → Headed bs × (refusal Book (entry_checks (consist_rows bs) (total_of bs) (vehicle_rows bs)) ≡ None)
both bs e =
    let t = first_met Book (must (headed bs) BookHead) _ e in
    let u = first_met Book (must (reaching bs) ConsistCount) _ t.1 in
    let v = first_met Book (must (fitting bs) VehicleCount) _ u.1 in
    (head_told bs t.0 u.0 v.0, v.1)

-- the same of the parts as they were cut
pub parts_pass : (bs : List ℕ) (consists vehicles : List (List ℕ)) → Cut bs consists vehicles → refusal Book (book_checks bs) ≡ None
    → refusal Book (entry_checks consists (length vehicles) vehicles) ≡ None
parts_pass bs consists vehicles p e =
    ap₂ (λ (es vs : List (List ℕ)). refusal Book (entry_checks es (length vs) vs)) p.consists_are p.vehicles_are
    ∙ ap (λ (n : ℕ). refusal Book (entry_checks (consist_rows bs) n (vehicle_rows bs))) (length-rows 17 (total_of bs) (table_of bs))
    ∙ (both bs e).1

pub parts_bytes : (bs : List ℕ) → Bytes bs → bytes_in (entries_of bs) ≡ true
parts_bytes bs y =
    bytes_told (entries_of bs) (All-take (λ b. b < 256) (count_of bs * 21) (drop 4 bs) (All-drop (λ b. b < 256) 4 bs y))

-- what is accepted is the book of the fleet that it is read as
pub taken : (bs : List ℕ) → Bytes bs → refusal Book (book_checks bs) ≡ None → IsBook bs (fleet_of bs)
taken bs y e =
    let t = both bs e in
    let h = t.0 in
    let f = h.four in
    let g = h.long in
    let d = length-drop 4 bs in
    let n = length-drop (count_of bs * 21) (drop 4 bs) in
    let w = length-drop 2 (tail_of bs) in
    let l : length (entries_of bs) ≡ count_of bs * 21 = length-take-le (count_of bs * 21) (drop 4 bs) (omega arith) in
    let m : length (table_of bs) ≡ total_of bs * 17 = omega arith in
    let b : Bytes (entries_of bs) = All-take (λ b. b < 256) (count_of bs * 21) (drop 4 bs) (All-drop (λ b. b < 256) 4 bs y) in
    let p = passed (consist_rows bs) (total_of bs) (vehicle_rows bs) t.1 in
    let c = part_count (entries_of bs) (table_of bs) (count_of bs) (total_of bs) l m b t.1 in
    let v = part_total (entries_of bs) (table_of bs) (count_of bs) (total_of bs) l m b t.1 in
    let i = h.few in
    let j = h.small in
    record {
      fleet = record {
        short = omega arith;
        small = omega arith;
        rising = read_rising (consist_rows bs) (vehicle_rows bs) (ascent [] (consist_rows bs) p.rising).pairs;
        each = part_lawful (entries_of bs) (table_of bs) (count_of bs) (total_of bs) l m b t.1;
      };
      written = part_book (entries_of bs) (table_of bs) (count_of bs) (total_of bs) l m b t.1 ∙ taken_parts bs y h;
    }

-- the book of each fleet is accepted, and is read as that fleet
pub written : (is : List Item) → IsFleet is → (refusal Book (book_checks (book_of is)) ≡ None) × (fleet_of (book_of is) ≡ is)
written is h =
    let bs = book_of is in
    let lE : length (flat (map item_row is)) ≡ length is * 21 = length-flat 21 (map item_row is) (written_long is h.each) ∙ ap (λ (n : ℕ). n * 21) (length-map is item_row) in
    let lT : length (flat (map vehicle_row (vehicles_in is))) ≡ length (vehicles_in is) * 17 = length-flat 17 (map vehicle_row (vehicles_in is)) (written_lines is h.each) ∙ ap (λ (n : ℕ). n * 17) (length-map (vehicles_in is) vehicle_row) in
    let c : count_of (book_of is) ≡ length is = of_two (length is) in
    let k : length (flat (map item_row is)) ≡ count_of (book_of is) * 21 = lE ∙ ap (λ (n : ℕ). n * 21) (sym c) in
    let e : entries_of (book_of is) ≡ flat (map item_row is) = take_at (flat (map item_row is)) (two (length (vehicles_in is)) ++ flat (map vehicle_row (vehicles_in is))) (count_of (book_of is) * 21) k in
    let t : tail_of (book_of is) ≡ two (length (vehicles_in is)) ++ flat (map vehicle_row (vehicles_in is)) = drop_at (flat (map item_row is)) (two (length (vehicles_in is)) ++ flat (map vehicle_row (vehicles_in is))) (count_of (book_of is) * 21) k in
    let v : total_of (book_of is) ≡ length (vehicles_in is) = ap (λ (x : List ℕ). slice_index x 0 * 256 + slice_index x 1) t ∙ of_two (length (vehicles_in is)) in
    let a : table_of (book_of is) ≡ flat (map vehicle_row (vehicles_in is)) = ap (drop 2) t in
    let rE : consist_rows (book_of is) ≡ map item_row is = ap₂ (rows 21) (c ∙ sym (length-map is item_row)) e ∙ flat_rows 21 (map item_row is) (written_long is h.each) in
    let rT : vehicle_rows (book_of is) ≡ map vehicle_row (vehicles_in is) = ap₂ (rows 17) (v ∙ sym (length-map (vehicles_in is) vehicle_row)) a ∙ flat_rows 17 (map vehicle_row (vehicles_in is)) (written_lines is h.each) in
    let n1 = length-append (flat (map item_row is)) (two (length (vehicles_in is)) ++ flat (map vehicle_row (vehicles_in is))) in
    let s = h.short in
    let r = h.small in
    let g : length (book_of is) ≡ 6 + 21 * count_of (book_of is) + 17 * total_of (book_of is) = omega arith in
    let H = head_fits (book_of is) (record { four = omega arith; one = refl; none = refl; few = omega arith; reach = omega arith }) (omega arith) g in
    let p : refusal Book (entry_checks (consist_rows (book_of is)) (total_of (book_of is)) (vehicle_rows (book_of is))) ≡ None =
    ap₂ (λ (x : List (List ℕ)) (y : List (List ℕ)). refusal Book (entry_checks x (total_of (book_of is)) y)) rE rT
    ∙ ap (λ (n : ℕ). refusal Book (entry_checks (map item_row is) n (map vehicle_row (vehicles_in is)))) v
    ∙ written_passes is h.rising h.each in
    (refusal-joined Book (head_checks (book_of is)) (entry_checks (consist_rows (book_of is)) (total_of (book_of is)) (vehicle_rows (book_of is))) ∙ ap₂ or_else (sym H) p, ap₂ listed rE rT ∙ written_is is h.each)

-- bytes are the book of one fleet at most, and two books that mean the same are one
pub one_reading : (bs : List ℕ) (is : List Item) → IsBook bs is → fleet_of bs ≡ is
one_reading bs is b = ap fleet_of (sym b.written) ∙ (written is b.fleet).1

pub opened : (bs : List ℕ) → Bytes bs → refusal Book (book_checks bs) ≡ None → Opened bs (fleet_of bs)
opened bs y e =
    let b = taken bs y e in
    record {
      book = b;
      only = λ others o. sym (one_reading bs others o);
      apart = λ cs others o m. sym o.written ∙ ap book_of (one_fleet others (fleet_of bs) o.fleet.rising b.fleet.rising m) ∙ b.written;
    }

pub refused : (bs : List ℕ) (x : Refusal) → Some x ≡ refusal Book (book_checks bs) → NoBook bs
refused bs x e is b = never x (e ∙ ap (λ (cs : List ℕ). refusal Book (book_checks cs)) (sym b.written) ∙ (written is b.fleet).0)
