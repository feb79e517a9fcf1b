-- The bytes of a name, as they are read into their places.
use Rattle.std.proofs.Common.{◌≡◌, ℕ, ◌+◌, ◌-◌, ◌<◌, ◌≤◌, Bool, true, false, ltb, List, [], ◌∷◌, ◌++◌, length, take, drop, set, replicate, Ok, Err, Result, sym, refl, ap, ◌∙◌, subst, arith, length-set, drop-drop, drop-set-lt, length-take-le, ltb-true, ltb-false}
use Rattle.std.proofs.lemmas.List.{take_more_set, drop-replicate}
use Rattle.train.specs.declared.refusal.Refusal.{Refusal}
use Rattle.train.specs.Names.{IsName, padded}
use Rattle.fleet_list.specs.declared.cursor.Cursor.{Cursor}
use Rattle.fleet_list.specs.Cursors.{Takes, TakesOne, Exactly, IsAt}
use Rattle.fleet_list.specs.Parts.{same, Letter, name_text}
use Rattle.fleet_list.specs.Texts.{escaped}
use Rattle.fleet_list.proofs.Cursors.{behind_byte, at_refused}
use Rattle.fleet_list.proofs.Letters.{Good, Sized, front_letter, apart_letter}
use Rattle.fleet_list.proofs.Pads.{pad, pad_good, cut, pads}
use Rattle.fleet_list.proofs.Runs.{Along, along_more, end_stuck, all_taken}
use Rattle.fleet_list.proofs.Series.{ended, first_end}

-- i of the fifteen places are filled, and zeros stand behind them
pub record Spelled (c d : Cursor) (places : List ℕ) (i : ℕ) : Type 0 where
  pub along : Along Letter escaped c d (take i places)
  pub long : length places ≡ 15
  pub few : i ≤ 15
  pub blank : drop i places ≡ replicate (15 - i) 0

-- zeros behind one byte more
zeros_on : (xs : List ℕ) (n b : ℕ) → n < 15 → drop n xs ≡ replicate (15 - n) 0 → drop (n + 1) (set xs n b) ≡ replicate (15 - (n + 1)) 0
zeros_on xs n b l e =
    let k : 15 - n - 1 ≡ 15 - (n + 1) = omega arith in
    let a : drop (n + 1) (set xs n b) ≡ drop (n + 1) xs = drop-set-lt (n + 1) xs n b (omega arith) in
    let c : drop 1 (drop n xs) ≡ drop (n + 1) xs = drop-drop 1 n xs in
    let d : drop 1 (drop n xs) ≡ drop 1 (replicate {A = ℕ} (15 - n) 0) = ap (drop 1) e in
    let f : drop 1 (replicate {A = ℕ} (15 - n) 0) ≡ replicate (15 - n - 1) 0 = drop-replicate 1 (15 - n) 0 in
    let g : replicate {A = ℕ} (15 - n - 1) 0 ≡ replicate (15 - (n + 1)) 0 = ap (λ (i : ℕ). replicate i 0) k in
    a ∙ (sym c ∙ (d ∙ (f ∙ g)))

pub spelled_more : {c d e : Cursor} {places : List ℕ} {i b : ℕ} → Spelled c d places i → i < 15 → Takes Letter escaped same d e (Ok b) → Spelled c e (set places i b) (i + 1)
spelled_more {c} {d} {e} {places} {i} {b} s l t = record {
  along = subst (Along Letter escaped c e) (sym (take_more_set places i b (omega (arith, s.long)))) (along_more Letter escaped s.along t);
  long = length-set places i b ∙ s.long;
  few = omega arith;
  blank = zeros_on places i b l s.blank;
}

-- all of them are read: the bytes are these and a zero
pub record Spelt (c d : Cursor) (bytes : List ℕ) : Type 0 where
  pub places : List ℕ
  pub count : ℕ
  pub spelled : Spelled c d places count
  pub some : 0 < count
  pub whole : bytes ≡ places ++ 0 ∷ []
  pub ends : count < 15 → IsAt 34 d

-- a quote mark, and the bytes and the quote mark that ends them
pub quoted_name : {c d e : Cursor} {u : Unit {0}} (r : Result (List ℕ) Refusal) → TakesOne (Exactly 34) c d (Ok u) → Takes Good (ended Letter escaped 34) same d e r → Takes IsName name_text padded c e r
quoted_name r t a = behind_byte Good (ended Letter escaped 34) IsName name_text 34 same padded pad (λ w x y h _. cut w h) pad_good r t a

pub spelt_done : {c d e : Cursor} {bytes : List ℕ} {u : Unit {0}} (s : Spelt c d bytes) → TakesOne (Exactly 34) d e (Ok u) → Takes Good (ended Letter escaped 34) same c e (Ok (take s.count s.places))
spelt_done {c} {d} {e} s t =
    let n : length (take s.count s.places) ≡ s.count = length-take-le s.count s.places (omega (arith, s.spelled.long, s.spelled.few)) in
    all_taken Letter escaped 34 front_letter apart_letter Sized same (omega (arith, s.some), omega (arith, s.spelled.few)) refl s.spelled.along t

stuck_by : {c d e : Cursor} {bytes : List ℕ} {x : Refusal} (s : Spelt c d bytes) (z : Bool) → ltb s.count 15 ≡ z → TakesOne (Exactly 34) d e (Err x) → Takes {R = List ℕ} Good (ended Letter escaped 34) same c e (Err x)
stuck_by s true z t = absurd (at_refused (s.ends (ltb-true s.count 15 z)) t)
stuck_by {c} {d} {e} s false z t =
    let n : length (take s.count s.places) ≡ s.count = length-take-le s.count s.places (omega (arith, s.spelled.long, s.spelled.few)) in
    let m : 15 ≤ s.count = ltb-false s.count 15 z in
    end_stuck Letter escaped 34 front_letter apart_letter Sized same (λ b. b ≡ 34) [] ((omega (arith, s.some), omega (arith, s.spelled.few)), tt)
    (first_end Letter escaped 34 (λ k. Sized (length (take s.count s.places) + k)) (λ k h. omega (arith, h.1))) (λ l h q. h q) s.spelled.along t

pub spelt_stuck : {c d e : Cursor} {bytes : List ℕ} {x : Refusal} → Spelt c d bytes → TakesOne (Exactly 34) d e (Err x) → Takes {R = List ℕ} Good (ended Letter escaped 34) same c e (Err x)
spelt_stuck s t = stuck_by s (ltb s.count 15) refl t

-- sixteen bytes
pub spelt_bytes : {c d : Cursor} {bytes : List ℕ} (s : Spelt c d bytes) → bytes ≡ padded (take s.count s.places)
spelt_bytes s = s.whole ∙ pads s.places s.count s.spelled.long s.spelled.few s.spelled.blank
