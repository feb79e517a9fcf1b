-- The tables and the written bytes are the composition; and the checks in their order.
use Rattle.std.proofs.Common.{◌≡◌, ℕ, ◌+◌, ◌*◌, ◌<◌, ◌≤◌, Bool, true, false, cond, ◌==◌, leb, List, [], ◌∷◌, ◌++◌, map, length, Some, None, Option, sym, refl, ap, ◌∙◌, ap₂, arith}
use Rattle.std.proofs.lemmas.List.{length-map}
use Rattle.std.proofs.lemmas.Bool.{le-leb, lt-leb, cond-true, cond-false}
use Rattle.train.specs.declared.entries.Coupled.{Coupled}
use Rattle.train.specs.declared.refusal.Part.TheVariants.{Composing}
use Rattle.train.specs.declared.refusal.Reason.TheVariants.{BufferShort}
use Rattle.train.specs.declared.refusal.Refusal.{Refusal}
use Rattle.train.specs.Facings.{code}
use Rattle.train.specs.Refusals.{breach, refusal, refused_at}
use Rattle.train.proofs.Rules.{first_refuses, last_answers, then_answers}
use Rattle.fleet.specs.Fleets.{Meaning}
use Rattle.bench.specs.Facts.{Facts}
use Rattle.directory.specs.declared.cars.Car.{Car}
use Rattle.directory.specs.declared.rows.TrainRow.{TrainRow}
use Rattle.directory.specs.declared.rows.ConsistRow.{ConsistRow}
use Rattle.directory.specs.declared.rows.VehicleRow.{VehicleRow}
use Rattle.directory.specs.declared.writing.Head.{Head}
use Rattle.directory.specs.Cars.{train}
use Rattle.directory.specs.Operation.{orientation, from_head, operational}
use Rattle.directory.specs.Composing.{checks, formation_checks, train_checks, order_checks, room_check}
use Rattle.directory.specs.Rows.{train_row, consist_row, vehicle_row, train_row_of, consist_row_of, vehicle_row_of}
use Rattle.directory.specs.Sections.{section, firsts, seats, nobody, four, size, composition, entry_row, train_part, operational_part}
use Rattle.directory.specs.declared.writing.Status.TheVariants.{Unconfirmed, Confirmed}
use Rattle.directory.specs.Whole.{whole_of, status_code, standing}
use Rattle.sc32.specs.Checksum.{checksum}
use Rattle.directory.proofs.Runs.{length-seats}
use Rattle.directory.proofs.Sections.{rows-map}

section-map : {A B : Type 0} (row : ℕ → B → List ℕ) (other : ℕ → A → List ℕ) (f : A → B) → ((n : ℕ) (x : A) → row n (f x) ≡ other n x)
    → (xs : List A) → section row (map f xs) ≡ section other xs
section-map row other f h xs = ap₂ (λ n bs. n ∷ bs) (length-map xs f) (rows-map row other f h 1 xs)

-- the bytes of the rows of these entries and cars
abbrev pub text_of : Head → Meaning → List Coupled → List Car → List Car → List ℕ
text_of h m es cs tr =
    whole_of h (section train_row (map (train_row_of m) es)) (section consist_row (map (consist_row_of es) (firsts nobody cs)) ++ section vehicle_row (map (vehicle_row_of tr) (seats 0 nobody cs)))

abbrev pub head_of : Facts → Head
head_of f = record { orientation = orientation f; status = standing f; etb = f.etb }

status_told : (b : Bool) → status_code (cond b Unconfirmed Confirmed) ≡ cond b 1 2
status_told true = refl
status_told false = refl

module _ (f : Facts) (m : Meaning) where
  whole_text : text_of (head_of f) m f.formation (operational f m) (train m f.claims f.formation) ≡ composition f m
  whole_text =
      let one : section train_row (map (train_row_of m) f.formation) ≡ train_part f m = section-map train_row (entry_row m) (train_row_of m) (λ n x. refl) f.formation in
      let two = section-map consist_row _ (consist_row_of f.formation) (λ n x. refl) (firsts nobody (operational f m)) in
      let three = section-map vehicle_row _ (vehicle_row_of (train m f.claims f.formation)) (λ n x. refl) (seats 0 nobody (operational f m)) in
      let told = status_told (0 == length f.confirmed) in
      let first = train_part f m in
      let rest = operational_part f m in
      ap₂ (whole_of (head_of f)) one (ap₂ (λ a b. a ++ b) two three)
      ∙ ap (λ s. ((1 ∷ 0 ∷ code (orientation f) ∷ s ∷ []) ++ (four f.etb ++ (four (checksum f.etb first) ++ four (checksum (checksum f.etb first) rest)))) ++ (first ++ rest)) told

  pub same_whole : (h : Head) (es : List Coupled) (cs tr : List Car) → h ≡ head_of f → es ≡ f.formation → cs ≡ operational f m → tr ≡ train m f.claims f.formation
      → text_of h m es cs tr ≡ composition f m
  same_whole h es cs tr eh ee ec et =
      ap₂ (λ a b. text_of a m b cs tr) eh ee ∙ ap₂ (λ a b. text_of (head_of f) m f.formation a b) ec et ∙ whole_text

  pub same_size : (es : List Coupled) (cs tr : List Car) (a b c : ℕ) → es ≡ f.formation → cs ≡ operational f m
      → length (map (train_row_of m) es) ≡ a → length (map (consist_row_of es) (firsts nobody cs)) ≡ b → length (map (vehicle_row_of tr) (seats 0 nobody cs)) ≡ c
      → 19 + 24 * a + 20 * b + 24 * c ≡ size f m
  same_size es cs tr a b c ee ec ea eb ev =
      let p = sym (length-map es (train_row_of m)) ∙ ea in
      let q = sym (length-map (firsts nobody cs) (consist_row_of es)) ∙ eb in
      let r = sym (length-seats 0 nobody cs) ∙ sym (length-map (seats 0 nobody cs) (vehicle_row_of tr)) ∙ ev in
      let x = ap length ee in
      let y = ap (λ z. length (firsts nobody z)) ec in
      let z = ap length ec in
      omega arith

  pub too_short : (room need : ℕ) → need ≡ size f m → room < need → breach Composing (room_check f m room) ≡ Some (refused_at Composing BufferShort need)
  too_short room need e h =
      let no : leb (size f m) room ≡ false = lt-leb (size f m) room (omega arith) in
      cond-false (leb (size f m) room) None (Some (refused_at Composing BufferShort (size f m))) no ∙ ap (λ n. Some (refused_at Composing BufferShort n)) (sym e)

  pub long_enough : (room need : ℕ) → need ≡ size f m → need ≤ room → breach Composing (room_check f m room) ≡ None
  long_enough room need e h =
      let ok : leb (size f m) room ≡ true = le-leb (size f m) room (omega arith) in
      cond-true (leb (size f m) room) None (Some (refused_at Composing BufferShort (size f m))) ok

  module _ (room : ℕ) where
    pub by_formation : (r : Refusal) → Some r ≡ refusal Composing (formation_checks f m) → Some r ≡ refusal Composing (checks f m room)
    by_formation r h = first_refuses Composing (formation_checks f m) (train_checks f m ++ (order_checks f.confirmed (from_head f m) ++ room_check f m room ∷ [])) r h

    module _ (one : None ≡ refusal Composing (formation_checks f m)) where
      pub by_train : (r : Refusal) → Some r ≡ refusal Composing (train_checks f m) → Some r ≡ refusal Composing (checks f m room)
      by_train r h =
          then_answers Composing (formation_checks f m) (train_checks f m ++ (order_checks f.confirmed (from_head f m) ++ room_check f m room ∷ [])) (Some r) one
          (first_refuses Composing (train_checks f m) (order_checks f.confirmed (from_head f m) ++ room_check f m room ∷ []) r h)

      module _ (two : None ≡ refusal Composing (train_checks f m)) (head : List Car) (eh : head ≡ from_head f m) where
        pub by_order : (r : Refusal) → Some r ≡ refusal Composing (order_checks f.confirmed head) → Some r ≡ refusal Composing (checks f m room)
        by_order r h =
            then_answers Composing (formation_checks f m) (train_checks f m ++ (order_checks f.confirmed (from_head f m) ++ room_check f m room ∷ [])) (Some r) one
            (then_answers Composing (train_checks f m) (order_checks f.confirmed (from_head f m) ++ room_check f m room ∷ []) (Some r) two
            (first_refuses Composing (order_checks f.confirmed (from_head f m)) (room_check f m room ∷ []) r (h ∙ ap (λ z. refusal Composing (order_checks f.confirmed z)) eh)))

        pub by_room : (o : Option Refusal) → None ≡ refusal Composing (order_checks f.confirmed head) → o ≡ breach Composing (room_check f m room) → o ≡ refusal Composing (checks f m room)
        by_room o h e =
            then_answers Composing (formation_checks f m) (train_checks f m ++ (order_checks f.confirmed (from_head f m) ++ room_check f m room ∷ [])) o one
            (then_answers Composing (train_checks f m) (order_checks f.confirmed (from_head f m) ++ room_check f m room ∷ []) o two
            (last_answers Composing (order_checks f.confirmed (from_head f m)) (room_check f m room) o (h ∙ ap (λ z. refusal Composing (order_checks f.confirmed z)) eh) e))

pub lent_text : (h : Head) {a x : List TrainRow} {b y : List ConsistRow} {c z : List VehicleRow} → a ≡ x → b ≡ y → c ≡ z
    → whole_of h (section train_row a) (section consist_row b ++ section vehicle_row c) ≡ whole_of h (section train_row x) (section consist_row y ++ section vehicle_row z)
lent_text h p q r = ap₂ (whole_of h) (ap (section train_row) p) (ap₂ (λ u v. u ++ v) (ap (section consist_row) q) (ap (section vehicle_row) r))
