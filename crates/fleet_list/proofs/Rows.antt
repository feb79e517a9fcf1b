-- Lines one behind another, as they go into the tables.
use Rattle.std.proofs.Common.{◌≡◌, ℕ, ◌+◌, ◌<◌, ◌≤◌, min, List, [], ◌∷◌, ◌++◌, length, take, drop, set, decimal, Ok, sym, refl, ap, ◌∙◌, subst, append_assoc, arith, length-append, length-take-le}
use lib.Seq.{take-append-le}
use borrow.Rule.Slice.PartMut.{put_mid, post_of}
use Rattle.std.specs.List.{flat_map, AllByRecursion}
use Rattle.std.proofs.lemmas.List.{take_more_set, flat_map_more, take_at, drop_at}
use Rattle.train.specs.declared.entries.Vehicle.{Vehicle}
use Rattle.fleet_list.specs.declared.tables.Head.{Head}
use Rattle.fleet.specs.Books.{Item, vehicles_in}
use Rattle.fleet_list.specs.declared.cursor.Cursor.{Cursor}
use Rattle.fleet_list.specs.Cursors.{Takes}
use Rattle.fleet_list.specs.Texts.{byte_text, vehicle_text, quoted, sign}
use Rattle.fleet_list.specs.Lists.{IsLine, line_text, list_text}
use Rattle.fleet_list.specs.Readings.{Held}
use Rattle.fleet_list.specs.Tables.{item_of, gathered, counts}
use Rattle.fleet_list.proofs.Gathers.{counts_push, gathered_push, gathered_front, vehicles_push}
use Rattle.fleet_list.proofs.Series.{all_push}

-- lines read so far; the cursor begins the next
pub record Passed (t : List ℕ) (c : Cursor) (heads : List Head) (vehicles : List Vehicle) (lines total : ℕ) : Type 0 where
  pub whole : List Item
  pub good : AllByRecursion IsLine whole
  pub count : length whole ≡ lines
  pub sum : length (vehicles_in whole) ≡ total
  pub here : t ≡ list_text whole ++ c.text.now
  pub start : c.at ≡ 0
  pub line : c.line ≡ lines + 1
  pub short : lines + length c.text.now ≤ length t
  pub small : total + length c.text.now ≤ length t
  pub held : lines ≤ 200 → total ≤ 2000 → Held whole heads vehicles lines total

vehicles_long : (vs : List Vehicle) → length vs ≤ length (flat_map vehicle_text vs)
vehicles_long [] = omega arith
vehicles_long (v ∷ vs) = omega (arith, vehicles_long vs, length-append (quoted (Rattle.train.specs.Names.text_of v.name.bytes) ++ sign v.facing) (flat_map vehicle_text vs))

-- a line is longer than it has vehicles
pub line_long : (i : Item) → length i.consist.vehicles < length (line_text i)
line_long i =
    let c = flat_map vehicle_text i.consist.vehicles in
    let d = decimal i.consist.counter in
    omega (arith, vehicles_long i.consist.vehicles, length-append (flat_map byte_text i.identity.bytes) (32 ∷ (d ++ (c ++ 10 ∷ []))), length-append d (c ++ 10 ∷ []), length-append c (10 ∷ []))

-- one consist more in the tables
held_more : (is : List Item) (heads : List Head) (vehicles last : List Vehicle) (lines total k : ℕ) (h : Head) → lines < length heads → total ≤ length vehicles → h.count ≤ length last → Held is heads vehicles lines total
    → Held (is ++ item_of h last ∷ []) (set heads lines h) (put_mid total k vehicles last) (lines + 1) (total + h.count)
held_more is heads vehicles last lines total k h l m n g =
    let hs = take lines heads in
    let long : length (take total vehicles) ≡ total = length-take-le total vehicles m in
    let post = last ++ post_of total k vehicles in
    let front : take total (put_mid total k vehicles last) ≡ take total vehicles = take_at (take total vehicles) post total long in
    let tail : drop total (put_mid total k vehicles last) ≡ post = drop_at (take total vehicles) post total long in
    let heads_is = take_more_set heads lines h l in
    record {
      items = ap (λ z. gathered z (put_mid total k vehicles last)) heads_is ∙ gathered_push hs h (put_mid total k vehicles last)
          ∙ ap (λ z. z ++ item_of h (drop (counts hs) (put_mid total k vehicles last)) ∷ [])
          (gathered_front hs (put_mid total k vehicles last) vehicles (ap (λ n. take n (put_mid total k vehicles last)) g.sum ∙ front ∙ sym (ap (λ n. take n vehicles) g.sum)) ∙ g.items)
          ∙ ap (λ z. is ++ record { identity = h.identity; consist = record { counter = h.counter; vehicles = z } } ∷ [])
          (ap (λ n. take h.count (drop n (put_mid total k vehicles last))) g.sum ∙ ap (take h.count) tail ∙ take-append-le h.count last (post_of total k vehicles) n);
      sum = ap counts heads_is ∙ counts_push hs h ∙ ap (λ n. n + h.count) g.sum;
    }

min_left : (n m : ℕ) → n ≤ m → min n m ≡ n
min_left n m l = omega arith

held_on : (is : List Item) (heads : List Head) (vehicles last : List Vehicle) (lines total slot from k : ℕ) (h : Head) → slot ≡ min lines 200 → from ≡ min total 2000 → 200 < length heads → 2032 ≤ length vehicles → h.count ≤ length last → lines + 1 ≤ 200 → total + h.count ≤ 2000 → Held is heads vehicles lines total
    → Held (is ++ item_of h last ∷ []) (set heads slot h) (put_mid from k vehicles last) (lines + 1) (total + h.count)
held_on is heads vehicles last lines total slot from k h es ef lh lv n l m g =
    let a = es ∙ min_left lines 200 (omega arith) in
    let b = ef ∙ min_left total 2000 (omega arith) in
    subst (λ i. Held (is ++ item_of h last ∷ []) (set heads i h) (put_mid from k vehicles last) (lines + 1) (total + h.count)) (sym a)
    (subst (λ i. Held (is ++ item_of h last ∷ []) (set heads lines h) (put_mid i k vehicles last) (lines + 1) (total + h.count)) (sym b)
    (held_more is heads vehicles last lines total k h (omega arith) (omega arith) n g))

pub passed_more : (t : List ℕ) (c d e : Cursor) (heads : List Head) (vehicles last : List Vehicle) (lines total slot from k : ℕ) (h : Head) → slot ≡ min lines 200 → from ≡ min total 2000 → Passed t c heads vehicles lines total → 200 < length heads → 2032 ≤ length vehicles → h.count ≤ length last
    → Takes IsLine line_text (λ h. item_of h last) c d (Ok h) → e.text.now ≡ drop d.at d.text.now → e.at ≡ 0 → e.line ≡ d.line + 1
    → Passed t e (set heads slot h) (put_mid from k vehicles last) (lines + 1) (total + h.count)
passed_more t c d e heads vehicles last lines total slot from k h es ef g lh lv n r et ea el =
    let i = item_of h last in
    let counted : length (take h.count last) ≡ h.count = length-take-le h.count last n in
    let s = line_long i in
    let z : drop c.at c.text.now ≡ c.text.now = ap (λ j. drop j c.text.now) g.start in
    let rest : drop d.at c.text.now ≡ e.text.now = ap (drop d.at) (sym r.stays.text) ∙ sym et in
    let here : c.text.now ≡ line_text i ++ e.text.now = sym z ∙ r.answer.here ∙ ap (λ x. line_text i ++ x) rest in
    let long : length c.text.now ≡ length (line_text i) + length e.text.now = ap length here ∙ length-append (line_text i) e.text.now in
    record {
      whole = g.whole ++ i ∷ [];
      good = all_push IsLine g.whole i g.good r.answer.good;
      count = length-append g.whole (i ∷ []) ∙ omega (arith, g.count);
      sum = ap length (vehicles_push g.whole i) ∙ length-append (vehicles_in g.whole) (take h.count last) ∙ omega (arith, g.sum, counted);
      here = g.here ∙ ap (λ x. list_text g.whole ++ x) here ∙ sym (append_assoc (list_text g.whole) (line_text i) e.text.now) ∙ ap (λ x. x ++ e.text.now) (flat_map_more line_text [] g.whole i);
      start = ea;
      line = el ∙ omega (arith, r.stays.line, g.line);
      short = omega (arith, g.short, s, long);
      small = omega (arith, g.small, s, counted, long);
      held = λ a b. held_on g.whole heads vehicles last lines total slot from k h es ef lh lv n a b (g.held (omega arith) (omega arith));
    }

empty : (t : List ℕ) → length t ≤ 0 → t ≡ []
empty [] l = refl
empty (x ∷ t) l = absurd (omega arith)
