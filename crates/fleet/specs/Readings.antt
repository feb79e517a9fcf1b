-- What the rows of a book that passes its checks are read as; written again, they are the rows.
use Rattle.std.specs.Prelude.{◌≡◌, ℕ, suc, ◌+◌, ◌<◌, ◌≤◌, true, false, not, ◌&&◌, ◌||◌, List, [], ◌∷◌, ◌++◌, map, length, take, drop, None, ◌==◌, ◌≢◌, nat_le, slice_index, refl}
use Rattle.std.proofs.Common.{sym, ap, ap₂, ◌∙◌, arith, drop-cons}
use Rattle.std.specs.List.{AllByRecursion}
use Rattle.std.specs.Str.{bytes_eq}
use Rattle.std.proofs.lemmas.List.{take-append-drop, length-take-le, length-drop, length-map, drop_all, map-append}
use Rattle.std.proofs.ByRecursion.{All-take, All-drop, All-get_or}
use Rattle.std.proofs.lemmas.Bool.Decides.{nat_tests}
use Rattle.train.specs.declared.refusal.Part.TheVariants.{Book}
use Rattle.train.specs.declared.refusal.Reason.TheVariants.{Repeated}
use Rattle.train.specs.Facings.{code, known}
use Rattle.train.specs.Octets.{below, zeros}
use Rattle.train.specs.Refusals.{refusal, keeps, each, fresh, by}
use Rattle.train.proofs.Names.{name_rule}
use Rattle.fleet.specs.Fleets.{Pairs, IsVehicle}
use Rattle.fleet.specs.Bytes.{Bytes}
use Rattle.fleet.specs.Rows.{identity_of, counter_of, size_of, name_of, facing_byte, counted, sized, sizes, named, faced, behind, apart_checks}
use Rattle.fleet.specs.Books.{facing_of, vehicle_of, item_of, listed, vehicle_row, item_row, vehicles_in, IsItem, Rising}
use Rattle.fleet.specs.Numbers.{four_of}
use Rattle.fleet.specs.Heads.{first_met}
use Rattle.fleet.specs.Kept.{fresh_pairs, pairs_mapped}
use Rattle.fleet.specs.Halves.{Under}

-- an entry of a consist, and one of a vehicle, that pass
pub record GoodEntry (e : List ℕ) : Type 0 where
  pub long : length e ≡ 21
  pub bytes : Bytes e
  pub real : bytes_eq (identity_of e) zeros ≡ false
  pub counter : counted e ≡ true
  pub size : sized e ≡ true

pub record GoodLine (r : List ℕ) : Type 0 where
  pub long : length r ≡ 17
  pub name : named r ≡ true
  pub facing : faced r ≡ true

last_one : (r : List ℕ) (n : ℕ) → length r ≡ suc n → drop n r ≡ slice_index r n ∷ []
last_one r n l =
    let h : n < length r = omega arith in
    let k : length r ≤ suc n = omega arith in
    drop-cons r n 0 h ∙ ap (λ (x : List ℕ). slice_index r n ∷ x) (drop_all (suc n) r k)

code_back : (b : ℕ) → (b == 1) || (b == 2) ≡ true → code (facing_of b) ≡ b
code_back b h = grind (arith, nat_tests)

code_known : (b : ℕ) → (b == 1) || (b == 2) ≡ true → known (facing_of b) ≡ true
code_known b h = grind (arith, nat_tests)

vehicle_back : (r : List ℕ) → GoodLine r → vehicle_row (vehicle_of r) ≡ r
vehicle_back r g =
    let c = code_back (facing_byte r) g.facing in
    ap (λ (x : ℕ). take 16 r ++ (x ∷ [])) c ∙ ap (λ (x : List ℕ). take 16 r ++ x) (sym (last_one r 16 g.long)) ∙ take-append-drop 16 r

vehicle_lawful : (r : List ℕ) → GoodLine r → IsVehicle (vehicle_of r)
vehicle_lawful r g = record { named = (name_rule (name_of r)).0 g.name; faced = code_known (facing_byte r) g.facing }

five : (e : List ℕ) → length e ≡ 21 → drop 16 e ≡ slice_index e 16 ∷ slice_index e 17 ∷ slice_index e 18 ∷ slice_index e 19 ∷ slice_index e 20 ∷ []
five e l =
    let a : 16 < length e = omega arith in
    let b : 17 < length e = omega arith in
    let c : 18 < length e = omega arith in
    let d : 19 < length e = omega arith in
    drop-cons e 16 0 a
    ∙ ap (λ (x : List ℕ). slice_index e 16 ∷ x) (drop-cons e 17 0 b
    ∙ ap (λ (x : List ℕ). slice_index e 17 ∷ x) (drop-cons e 18 0 c
    ∙ ap (λ (x : List ℕ). slice_index e 18 ∷ x) (drop-cons e 19 0 d ∙ ap (λ (x : List ℕ). slice_index e 19 ∷ x) (last_one e 20 l))))

item_back : (e : List ℕ) (ws : List (List ℕ)) → GoodEntry e → length ws ≡ size_of e → item_row (item_of e ws) ≡ e
item_back e ws g s =
    let l = g.long in
    let y : (k : ℕ) → k < 21 → slice_index e k < 256 = λ k h. All-get_or (λ b. b < 256) e k 0 (omega arith) g.bytes in
    let f = four_of (slice_index e 16) (slice_index e 17) (slice_index e 18) (slice_index e 19) (y 17 (omega arith)) (y 18 (omega arith)) (y 19 (omega arith)) in
    let n = length-map ws vehicle_of ∙ s in
    ap₂ (λ (x : List ℕ) (m : ℕ). take 16 e ++ (x ++ (m ∷ []))) f n ∙ ap (λ (x : List ℕ). take 16 e ++ x) (sym (five e l)) ∙ take-append-drop 16 e

all_lines : (rs : List (List ℕ)) → AllByRecursion GoodLine rs → AllByRecursion IsVehicle (map vehicle_of rs)
all_lines [] h = tt
all_lines (r ∷ rs) h = (vehicle_lawful r h.0, all_lines rs h.1)

lines_back : (rs : List (List ℕ)) → AllByRecursion GoodLine rs → map vehicle_row (map vehicle_of rs) ≡ rs
lines_back [] h = refl
lines_back (r ∷ rs) h = ap₂ (λ x y. x ∷ y) (vehicle_back r h.0) (lines_back rs h.1)

pub counter_some : (n : ℕ) → not (n == 0) ≡ true → 1 ≤ n
counter_some n h = grind (arith, nat_tests)

counter_fits : (e : List ℕ) → GoodEntry e → counter_of e ≤ 4294967295
counter_fits e g =
    let l = g.long in
    let y : (k : ℕ) → k < 21 → slice_index e k < 256 = λ k h. All-get_or (λ b. b < 256) e k 0 (omega arith) g.bytes in
    let a = y 16 (omega arith) in
    let b = y 17 (omega arith) in
    let c = y 18 (omega arith) in
    let d = y 19 (omega arith) in
    omega arith

pub size_fits : (n : ℕ) → nat_le 1 n && nat_le n 32 ≡ true → (1 ≤ n) × (n ≤ 32)
size_fits n h = (grind (arith, nat_tests), grind (arith, nat_tests))

item_lawful : (e : List ℕ) (ws : List (List ℕ)) → GoodEntry e → AllByRecursion GoodLine ws → length ws ≡ size_of e → keeps (fresh (by bytes_eq name_of)) [] ws ≡ true → IsItem (item_of e ws)
item_lawful e ws g a s r =
    let l = g.long in
    let z = size_fits (size_of e) g.size in
    let m = length-map ws vehicle_of in
    let lo = z.0 in
    let hi = z.1 in
    record {
      whole = length-take-le 16 e (omega arith);
      real = g.real;
      consist = record {
        counted = counter_some (counter_of e) g.counter;
        fits = counter_fits e g;
        some = omega arith;
        few = omega arith;
        each = all_lines ws a;
        apart = pairs_mapped vehicle_of (λ v w. v.name.bytes ≢ w.name.bytes) ws (fresh_pairs name_of ws r);
      };
    }

pub length-listed : (es vs : List (List ℕ)) → length (listed es vs) ≡ length es
length-listed [] vs = refl
length-listed (e ∷ es) vs = ap suc (length-listed es (drop (size_of e) vs))

all_listed : (P : List ℕ → Type 0) (es vs : List (List ℕ)) → AllByRecursion (λ e. P (identity_of e)) es → AllByRecursion (λ i. P i.identity.bytes) (listed es vs)
all_listed P [] vs h = tt
all_listed P (e ∷ es) vs h = (h.0, all_listed P es (drop (size_of e) vs) h.1)

pub read_rising : (es vs : List (List ℕ)) → Pairs Under es → Rising (listed es vs)
read_rising [] vs p = tt
read_rising (e ∷ es) vs p =
    (all_listed (λ b. below (identity_of e) b ≡ true) es (drop (size_of e) vs) p.0, read_rising es (drop (size_of e) vs) p.1)

pub read_lawful : (n : ℕ) (es vs : List (List ℕ)) → AllByRecursion GoodEntry es → AllByRecursion GoodLine vs → sizes es ≡ length vs → refusal Book (apart_checks n es vs) ≡ None → AllByRecursion IsItem (listed es vs)
read_lawful n [] vs g a s e = tt
read_lawful n (r ∷ es) vs g a s e =
    let t = first_met Book (behind n (each (fresh (by bytes_eq name_of)) Repeated (take (size_of r) vs))) (refusal Book (apart_checks (n + size_of r) es (drop (size_of r) vs))) e in
    let l = length-drop (size_of r) vs in
    let k = length-take-le (size_of r) vs (omega arith) in (
      item_lawful r (take (size_of r) vs) g.0 (All-take GoodLine (size_of r) vs a) k t.0,
      read_lawful (n + size_of r) es (drop (size_of r) vs) g.1 (All-drop GoodLine (size_of r) vs a) (omega arith) t.1,
    )

pub read_entries : (es vs : List (List ℕ)) → AllByRecursion GoodEntry es → sizes es ≡ length vs → map item_row (listed es vs) ≡ es
read_entries [] vs g s = refl
read_entries (r ∷ es) vs g s =
    let l = length-drop (size_of r) vs in
    let k = length-take-le (size_of r) vs (omega arith) in
    ap₂ (λ x y. x ∷ y) (item_back r (take (size_of r) vs) g.0 k) (read_entries es (drop (size_of r) vs) g.1 (omega arith))

pub none_left : (vs : List (List ℕ)) → 0 ≡ length vs → [] ≡ vs
none_left [] e = refl
none_left (v ∷ vs) e = absurd (omega arith)

pub read_lines : (es vs : List (List ℕ)) → AllByRecursion GoodLine vs → sizes es ≡ length vs → map vehicle_row (vehicles_in (listed es vs)) ≡ vs
read_lines [] vs a s = none_left vs s
read_lines (r ∷ es) vs a s =
    let l = length-drop (size_of r) vs in
    map-append vehicle_row (map vehicle_of (take (size_of r) vs)) (vehicles_in (listed es (drop (size_of r) vs)))
    ∙ ap₂ (λ x y. x ++ y) (lines_back (take (size_of r) vs) (All-take GoodLine (size_of r) vs a)) (read_lines es (drop (size_of r) vs) (All-drop GoodLine (size_of r) vs a) (omega arith))
    ∙ take-append-drop (size_of r) vs
