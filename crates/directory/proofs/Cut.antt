-- The leading-end part of a written composition is what the facts define.
use Rattle.std.proofs.Common.{◌≡◌, ℕ, ◌+◌, ◌*◌, List, [], ◌∷◌, ◌++◌, length, take, drop, sym, refl, ap, ◌∙◌, subst, ap₂, append_assoc, append-nil, mul-zero, mul-suc, arith, length-append}
use Rattle.std.specs.List.{AllByRecursion}
use Rattle.std.proofs.lemmas.List.{take_at, drop_at}
use Rattle.train.specs.declared.entries.Coupled.{Coupled}
use Rattle.directory.specs.Sections.{nobody, Seat, rows, section, firsts, seats, consist_row, vehicle_row, lead_byte, entry_row, operational_part, status, consist_number, vehicle_number, composition, leading_end}
use Rattle.fleet.specs.Fleets.{Meaning}
use Rattle.directory.proofs.Vocabulary.{Sixteen}
use Rattle.train.specs.Facings.{code}
use Rattle.bench.specs.Facts.{Facts}
use Rattle.directory.specs.declared.cars.Car.{Car}
use Rattle.directory.specs.Operation.{operational}
use Rattle.directory.specs.Part.{behind, past, thinned, thin_section, consists, vehicles, leading_part, Section, Sections}
use Rattle.directory.proofs.RowTells.{none}

-- rows of k bytes, passed over
module _ {X : Type 0} (Ok : X → Type 0) (row : ℕ → X → List ℕ) (k : ℕ) (fixed : (n : ℕ) (x : X) → Ok x → length (row n x) ≡ k) where
  pub behind_rows : (n : ℕ) (xs : List X) (s : List ℕ) → AllByRecursion Ok xs → behind k (length xs) (rows row n xs ++ s) ≡ s
  behind_rows n [] s h = refl
  behind_rows n (x ∷ xs) s h =
      ap (λ z. behind k (length xs) (drop k z)) (append_assoc (row n x) (rows row (n + 1) xs) s)
      ∙ ap (behind k (length xs)) (drop_at (row n x) (rows row (n + 1) xs ++ s) k (fixed n x h.0))
      ∙ behind_rows (n + 1) xs s h.1

  rows_size : (n : ℕ) (xs : List X) → AllByRecursion Ok xs → length (rows row n xs) ≡ k * length xs
  rows_size n [] h = sym (mul-zero k)
  rows_size n (x ∷ xs) h =
      length-append (row n x) (rows row (n + 1) xs) ∙ (let a = fixed n x h.0 in let b = rows_size (n + 1) xs h.1 in let c = mul-suc k (length xs) in omega arith)

  -- a section is whole, whatever stands behind it
  pub section_whole : (xs : List X) (s : List ℕ) → AllByRecursion Ok xs → Section k (section row xs ++ s)
  section_whole xs s h = let a = length-append (rows row 1 xs) s in let b = rows_size 1 xs h in omega arith

-- a row, and the row without one byte
pub record Thin (a b : ℕ) (long short : List ℕ) : Type 0 where
  pub front : List ℕ
  pub number : ℕ
  pub back : List ℕ
  pub before : length front ≡ a
  pub after : length back ≡ b
  pub whole : long ≡ front ++ (number ∷ back)
  pub thin : short ≡ front ++ back

module _ {X : Type 0} (Ok : X → Type 0) (row short : ℕ → X → List ℕ) (a b : ℕ) (parts : (n : ℕ) (x : X) → Ok x → Thin a b (row n x) (short n x)) where
  pub thin_rows : (n : ℕ) (xs : List X) (s : List ℕ) → AllByRecursion Ok xs → thinned a b (length xs) (rows row n xs ++ s) ≡ rows short n xs
  thin_rows n [] s h = refl
  thin_rows n (x ∷ xs) s h =
      let w = parts n x h.0 in
      let r : List ℕ = rows row (n + 1) xs ++ s in
      let e : rows row n (x ∷ xs) ++ s ≡ w.front ++ (w.number ∷ (w.back ++ r)) =
      append_assoc (row n x) (rows row (n + 1) xs) s ∙ ap (λ z. z ++ r) w.whole ∙ append_assoc w.front (w.number ∷ w.back) r in
      let d : drop a (rows row n (x ∷ xs) ++ s) ≡ w.number ∷ (w.back ++ r) = ap (drop a) e ∙ drop_at w.front (w.number ∷ (w.back ++ r)) a w.before in
      let one : take a (rows row n (x ∷ xs) ++ s) ≡ w.front = ap (take a) e ∙ take_at w.front (w.number ∷ (w.back ++ r)) a w.before in
      let two : take b (drop 1 (drop a (rows row n (x ∷ xs) ++ s))) ≡ w.back = ap (λ z. take b (drop 1 z)) d ∙ take_at w.back r b w.after in
      let three : thinned a b (length xs) (drop b (drop 1 (drop a (rows row n (x ∷ xs) ++ s)))) ≡ rows short (n + 1) xs =
      ap (λ z. thinned a b (length xs) (drop b (drop 1 z))) d ∙ ap (thinned a b (length xs)) (drop_at w.back r b w.after) ∙ thin_rows (n + 1) xs s h.1 in
      ap₂ (λ u v. u ++ v) one (ap₂ (λ u v. u ++ v) two three)
      ∙ sym (append_assoc w.front w.back (rows short (n + 1) xs))
      ∙ ap (λ z. z ++ rows short (n + 1) xs) (sym w.thin)

pub entry_row_long : (m : Meaning) (n : ℕ) (e : Coupled) → Sixteen e.identity.bytes → length (entry_row m n e) ≡ 24
entry_row_long m n e h = simp length-append (omega arith)

module _ (f : Facts) (m : Meaning) where
  consist_thin : (n : ℕ) (c : Car) → Sixteen c.consist.bytes → Thin 18 1 (consist_row (consist_number f) n c) (consist_row none n c)
  consist_thin n c h =
      record {
        front = c.consist.bytes ++ (n ∷ code c.stance ∷ []);
        number = _;
        back = 0 ∷ [];
        before = simp length-append (omega arith);
        after = refl;
        whole = sym (append_assoc c.consist.bytes (n ∷ code c.stance ∷ []) (consist_number f c ++ (0 ∷ [])));
        thin = sym (append_assoc c.consist.bytes (n ∷ code c.stance ∷ []) (0 ∷ []));
      }

  consist_long : (n : ℕ) (c : Car) → Sixteen c.consist.bytes → length (consist_row (consist_number f) n c) ≡ 20
  consist_long n c h = simp length-append (omega arith)

  vehicle_thin : (n : ℕ) (s : Seat) → Sixteen s.car.name.bytes → Thin 19 4 (vehicle_row (vehicle_number f m) n s) (vehicle_row none n s)
  vehicle_thin n s h =
      record {
        front = s.car.name.bytes ++ (n ∷ lead_byte s.car.lead ∷ code s.car.lead ∷ []);
        number = _;
        back = code s.car.facing ∷ s.run ∷ 0 ∷ 0 ∷ [];
        before = simp length-append (omega arith);
        after = refl;
        whole = sym (append_assoc s.car.name.bytes (n ∷ lead_byte s.car.lead ∷ code s.car.lead ∷ []) (vehicle_number f m s.car ++ (code s.car.facing ∷ s.run ∷ 0 ∷ 0 ∷ [])));
        thin = sym (append_assoc s.car.name.bytes (n ∷ lead_byte s.car.lead ∷ code s.car.lead ∷ []) (code s.car.facing ∷ s.run ∷ 0 ∷ 0 ∷ []));
      }

  vehicle_long : (n : ℕ) (s : Seat) → Sixteen s.car.name.bytes → length (vehicle_row (vehicle_number f m) n s) ≡ 24
  vehicle_long n s h = simp length-append (omega arith)

  -- where the operational sections begin
  consists_told : AllByRecursion (λ e. Sixteen e.identity.bytes) f.formation → consists (composition f m) ≡ operational_part f m
  consists_told h = behind_rows (λ e. Sixteen e.identity.bytes) (entry_row m) 24 (entry_row_long m) 1 f.formation (operational_part f m) h

  vehicles_told : AllByRecursion (λ e. Sixteen e.identity.bytes) f.formation → AllByRecursion (λ c. Sixteen c.consist.bytes) (firsts nobody (operational f m))
      → vehicles (composition f m) ≡ section (vehicle_row (vehicle_number f m)) (seats 0 nobody (operational f m))
  vehicles_told h g =
      ap (past 20) (consists_told h)
      ∙ behind_rows (λ c. Sixteen c.consist.bytes) (consist_row (consist_number f)) 20 consist_long 1 (firsts nobody (operational f m)) (section (vehicle_row (vehicle_number f m)) (seats 0 nobody (operational f m))) g

  module _ (h : AllByRecursion (λ e. Sixteen e.identity.bytes) f.formation) (g : AllByRecursion (λ c. Sixteen c.consist.bytes) (firsts nobody (operational f m)))
      (i : AllByRecursion (λ s. Sixteen s.car.name.bytes) (seats 0 nobody (operational f m))) where
    pub part_told : leading_part (composition f m) ≡ leading_end f m
    part_told =
        let fs : List Car = firsts nobody (operational f m) in
        let ss : List Seat = seats 0 nobody (operational f m) in
        let vs : List ℕ = section (vehicle_row (vehicle_number f m)) ss in
        let c : thin_section 18 1 (consists (composition f m)) ≡ section (consist_row none) fs =
        ap (thin_section 18 1) (consists_told h) ∙ ap (λ z. length fs ∷ z) (thin_rows (λ c. Sixteen c.consist.bytes) (consist_row (consist_number f)) (consist_row none) 18 1 consist_thin 1 fs vs g) in
        let d : thin_section 19 4 (vehicles (composition f m)) ≡ section (vehicle_row none) ss =
        ap (thin_section 19 4) (vehicles_told h g)
        ∙ ap (λ z. length ss ∷ thinned 19 4 (length ss) z) (sym (append-nil (rows (vehicle_row (vehicle_number f m)) 1 ss)))
        ∙ ap (λ z. length ss ∷ z) (thin_rows (λ s. Sixteen s.car.name.bytes) (vehicle_row (vehicle_number f m)) (vehicle_row none) 19 4 vehicle_thin 1 ss [] i) in
        ap₂ (λ u v. status f ∷ (u ++ v)) c d

    pub sections_told : Sections (composition f m)
    sections_told =
        let ss : List Seat = seats 0 nobody (operational f m) in
        record {
          header = omega arith;
          trains = section_whole (λ e. Sixteen e.identity.bytes) (entry_row m) 24 (entry_row_long m) f.formation (operational_part f m) h;
          consists = subst (Section 20) (sym (consists_told h)) (section_whole (λ c. Sixteen c.consist.bytes) (consist_row (consist_number f)) 20 consist_long (firsts nobody (operational f m)) _ g);
          vehicles = subst (Section 24) (sym (vehicles_told h g ∙ sym (append-nil (section (vehicle_row (vehicle_number f m)) ss))))
              (section_whole (λ s. Sixteen s.car.name.bytes) (vehicle_row (vehicle_number f m)) 24 vehicle_long ss [] i);
        }
