-- The operational vehicles, read back from a written composition.
use Rattle.std.proofs.Common.{◌≡◌, ℕ, ◌+◌, ◌≤◌, Bool, true, false, cond, List, [], ◌∷◌, ◌++◌, map, length, get_or, take, drop, unwrap_or, Option, refl, ap, ◌∙◌, ap₂, arith, length-append}
use Rattle.std.specs.List.{AllByRecursion}
use Rattle.std.proofs.lemmas.List.{take_at, drop_at, get_or-append_right}
use Rattle.train.specs.declared.entries.Vehicle.{Vehicle}
use Rattle.train.specs.declared.facing.Facing.{Facing}
use Rattle.train.specs.declared.facing.Facing.TheVariants.{NotKnown}
use Rattle.train.specs.declared.identity.Identity.{Identity}
use Rattle.train.specs.Facings.{code, coded}
use Rattle.train.specs.Identities.{same_identity}
use Rattle.train.proofs.Facings.{facing_laws}
use Rattle.fleet.specs.Fleets.{Meaning}
use Rattle.bench.specs.Facts.{Facts}
use Rattle.directory.specs.declared.cars.Car.{Car}
use Rattle.directory.specs.Operation.{operational}
use Rattle.directory.specs.Part.{past, consists, vehicles}
use Rattle.directory.specs.Sections.{Seat, nobody, rows, section, firsts, seats, lead_byte, entry_row, consist_row, vehicle_row, consist_number, vehicle_number, operational_part, composition}
use Rattle.directory.proofs.Cut.{behind_rows, entry_row_long}
use Rattle.directory.proofs.Runs.{length-seats}
use Rattle.directory.proofs.Vocabulary.{Sixteen}
use Rattle.coach_order.specs.Orders.{vehicle_of}
use Rattle.coach_order.specs.Reads.{row_vehicle, row_vehicles, vehicles_read}

-- each vehicle of an operational order stands in one row, in that order
seats_told : (n : ℕ) (x : Identity) (cs : List Car) → map (λ s. vehicle_of s.car) (seats n x cs) ≡ map vehicle_of cs
seats_told n x [] = refl
seats_told n x (c ∷ cs) =
    by (same_identity x c.consist) (seats n x cs) (seats (n + 1) c.consist cs) (seats_told n x cs) (seats_told (n + 1) c.consist cs)
  where
    by : (b : Bool) (ss ts : List Seat) → map (λ s. vehicle_of s.car) ss ≡ map vehicle_of cs → map (λ s. vehicle_of s.car) ts ≡ map vehicle_of cs
        → map (λ s. vehicle_of s.car) (cond b (record { car = c; run = n } ∷ ss) (record { car = c; run = n + 1 } ∷ ts)) ≡ map vehicle_of (c ∷ cs)
    by true ss ts p q = ap (λ (vs : List Vehicle). vehicle_of c ∷ vs) p
    by false ss ts p q = ap (λ (vs : List Vehicle). vehicle_of c ∷ vs) q

module _ (f : Facts) (m : Meaning) where
  abbrev row : ℕ → Seat → List ℕ
  row = vehicle_row (vehicle_number f m)

  consist_long : (n : ℕ) (c : Car) → Sixteen c.consist.bytes → length (consist_row (consist_number f) n c) ≡ 20
  consist_long n c h = simp length-append (omega arith)

  row_long : (n : ℕ) (s : Seat) → Sixteen s.car.name.bytes → length (row n s) ≡ 24
  row_long n s h = simp length-append (omega arith)

  row_back : (n : ℕ) (s : Seat) → Sixteen s.car.name.bytes → row_vehicle (row n s) ≡ vehicle_of s.car
  row_back n s h =
      let rest : List ℕ = n ∷ lead_byte s.car.lead ∷ code s.car.lead ∷ (vehicle_number f m s.car ++ (code s.car.facing ∷ s.run ∷ 0 ∷ 0 ∷ [])) in
      let le : 16 ≤ 20 = omega arith in
      let a : take 16 (row n s) ≡ s.car.name.bytes = take_at s.car.name.bytes rest 16 h in
      let b : get_or (row n s) 20 0 ≡ code s.car.facing = get_or-append_right s.car.name.bytes rest 16 20 0 h le in
      ap₂ (λ (bs : List ℕ) (g : Facing). let v : Vehicle = record { name = record { bytes = bs }; facing = g } in v) a
      (ap (λ (k : ℕ). unwrap_or (coded k) NotKnown) b ∙ ap (λ (o : Option Facing). unwrap_or o NotKnown) (facing_laws.reads s.car.facing))

  rows_back : (n : ℕ) (ss : List Seat) → AllByRecursion (λ s. Sixteen s.car.name.bytes) ss → row_vehicles (length ss) (rows row n ss) ≡ map (λ s. vehicle_of s.car) ss
  rows_back n [] h = refl
  rows_back n (s ∷ ss) h =
      let l = row_long n s h.0 in
      ap₂ (λ (v : Vehicle) (vs : List Vehicle). v ∷ vs)
      (ap row_vehicle (take_at (row n s) (rows row (n + 1) ss) 24 l) ∙ row_back n s h.0)
      (ap (row_vehicles (length ss)) (drop_at (row n s) (rows row (n + 1) ss) 24 l) ∙ rows_back (n + 1) ss h.1)

  module _ (h : AllByRecursion (λ e. Sixteen e.identity.bytes) f.formation) (g : AllByRecursion (λ c. Sixteen c.consist.bytes) (firsts nobody (operational f m)))
      (i : AllByRecursion (λ s. Sixteen s.car.name.bytes) (seats 0 nobody (operational f m))) where
    abbrev fs : List Car
    fs = firsts nobody (operational f m)

    abbrev ss : List Seat
    ss = seats 0 nobody (operational f m)

    consists_at : consists (composition f m) ≡ operational_part f m
    consists_at = behind_rows (λ e. Sixteen e.identity.bytes) (entry_row m) 24 (entry_row_long m) 1 f.formation (operational_part f m) h

    vehicles_at : vehicles (composition f m) ≡ section row ss
    vehicles_at = ap (past 20) consists_at ∙ behind_rows (λ c. Sixteen c.consist.bytes) (consist_row (consist_number f)) 20 consist_long 1 fs (section row ss) g

    pub read_back : vehicles_read (composition f m) ≡ map vehicle_of (operational f m)
    read_back =
        ap (λ (x : List ℕ). row_vehicles (get_or x 0 0) (drop 1 x)) vehicles_at ∙ rows_back 1 ss i ∙ seats_told 0 nobody (operational f m)

    pub count_told : get_or (vehicles (composition f m)) 0 0 ≡ length (operational f m)
    count_told = ap (λ (x : List ℕ). get_or x 0 0) vehicles_at ∙ length-seats 0 nobody (operational f m)
