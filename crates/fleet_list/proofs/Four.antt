-- The four parts of a line, and the line.
use Rattle.std.proofs.Common.{◌≡◌, ℕ, suc, ◌+◌, List, [], ◌∷◌, ◌++◌, map, length, drop, decimal, Ok, Err, sym, refl, ap, ◌∙◌, subst, append_assoc, arith}
use Rattle.std.specs.List.{flat_map, AllByRecursion}
use Rattle.train.specs.declared.entries.Vehicle.{Vehicle}
use Rattle.train.specs.declared.facing.Facing.TheVariants.{Direct}
use Rattle.train.specs.declared.refusal.Refusal.{Refusal}
use Rattle.fleet.specs.Fleets.{IsVehicle}
use Rattle.fleet.specs.Books.{Item}
use Rattle.train.specs.declared.identity.Identity.{Identity}
use Rattle.fleet_list.specs.declared.cursor.Cursor.{Cursor}
use Rattle.fleet_list.specs.Cursors.{Takes}
use Rattle.fleet_list.specs.Forms.{Front, Both, joint, Breaks, Reads}
use Rattle.fleet_list.specs.Parts.{same, bytes_of, GoodCar, car, car_of, cars, spaced, Car, Few, others, Bytes, bytes_text}
use Rattle.fleet_list.specs.Texts.{byte_text, vehicle_text}
use Rattle.fleet_list.specs.Counters.{Counter, counter_text}
use Rattle.fleet_list.specs.Lists.{IsLine, line_text}
use Rattle.fleet_list.proofs.Cursors.{both_taken, first_stuck, second_stuck, stuck_same, taken_as}
use Rattle.fleet_list.proofs.Seq.{same_breaks, front_both}
use Rattle.fleet_list.proofs.Hex.{front_identity}
use Rattle.fleet_list.proofs.Digits.{front_counter}
use Rattle.fleet_list.proofs.Pads.{named}
use Rattle.fleet_list.proofs.Cars.{front_car, front_others}

-- the parts, as they are read
abbrev pub Parts : Type 0
Parts = List ℕ × (ℕ × (Car × List Car))

abbrev GoodCars : Car × List Car → Type 0
GoodCars = Both GoodCar (Few 31)

abbrev cars_text : Car × List Car → List ℕ
cars_text = joint car others

abbrev GoodTail : ℕ × (Car × List Car) → Type 0
GoodTail = Both Counter GoodCars

abbrev tail_text : ℕ × (Car × List Car) → List ℕ
tail_text = joint counter_text cars_text

abbrev pub GoodParts : Parts → Type 0
GoodParts = Both (Bytes 16) GoodTail

abbrev pub parts_text : Parts → List ℕ
parts_text = joint bytes_text tail_text

-- the vehicle "A"+
abbrev pub some : Car
some = (Rattle.train.specs.Names.padded (65 ∷ []), Direct)

pub some_good : GoodCar some
some_good = (named (65 ∷ []) ((omega arith, omega arith), ((omega arith, omega arith), tt)), refl)

some_cars : GoodCars (some, [])
some_cars = (some_good, (omega arith, tt))

some_tail : GoodTail (1, (some, []))
some_tail = ((omega arith, omega arith), some_cars)

-- parts and lines are the same texts

abbrev vehicle_of : Car → Vehicle
vehicle_of v = record { name = record { bytes = v.0 }; facing = v.1 }

abbrev item_of : Parts → Item
item_of p = record { identity = record { bytes = p.0 }; consist = record { counter = p.1.0; vehicles = vehicle_of p.1.1.0 ∷ map vehicle_of p.1.1.1 } }

cars-vehicles : (vs : List Car) → flat_map vehicle_text (map vehicle_of vs) ≡ flat_map spaced vs
cars-vehicles [] = refl
cars-vehicles (v ∷ vs) = ap (λ z. spaced v ++ z) (cars-vehicles vs)

vehicles-cars : (vs : List Vehicle) → map vehicle_of (cars vs) ≡ vs
vehicles-cars [] = refl
vehicles-cars (v ∷ vs) = ap (λ z. v ∷ z) (vehicles-cars vs)

pub length-map : {A B : Type 0} (f : A → B) (xs : List A) → length (map f xs) ≡ length xs
length-map f [] = refl
length-map f (x ∷ xs) = ap suc (length-map f xs)

good_vehicles : (vs : List Car) → AllByRecursion GoodCar vs → AllByRecursion IsVehicle (map vehicle_of vs)
good_vehicles [] h = tt
good_vehicles (v ∷ vs) h = (record { named = h.0.0; faced = h.0.1 }, good_vehicles vs h.1)

good_cars : (vs : List Vehicle) → AllByRecursion IsVehicle vs → AllByRecursion GoodCar (cars vs)
good_cars [] h = tt
good_cars (v ∷ vs) h = ((h.0.named, h.0.faced), good_cars vs h.1)

natural : (i : List ℕ) (n : ℕ) (v : Car) (vs : List Car) → flat_map byte_text i ++ 32 ∷ (decimal n ++ ((spaced v ++ flat_map spaced vs) ++ 10 ∷ [])) ≡ parts_text (i, (n, (v, vs)))
natural i n v vs = simp append_assoc

line_parts : (p : Parts) → line_text (item_of p) ≡ parts_text p
line_parts p = ap (λ z. flat_map byte_text p.0 ++ 32 ∷ (decimal p.1.0 ++ ((spaced p.1.1.0 ++ z) ++ 10 ∷ []))) (cars-vehicles p.1.1.1) ∙ natural p.0 p.1.0 p.1.1.0 p.1.1.1

good_line : (p : Parts) → GoodParts p → IsLine (item_of p)
good_line p g = record {
  whole = g.0.0;
  bytes = g.0.1;
  counted = g.1.0.0;
  fits = omega (arith, g.1.0.1);
  some = omega arith;
  few = omega (arith, length-map vehicle_of p.1.1.1, g.1.1.1.0);
  each = (record { named = g.1.1.0.0; faced = g.1.1.0.1 }, good_vehicles p.1.1.1 g.1.1.1.1);
}

into : (p : Parts) → GoodParts p → (i : Item) × IsLine i × (line_text i ≡ parts_text p)
into p g = (item_of p, good_line p g, line_parts p)

abbrev parts_of : Item → Vehicle → List Vehicle → Parts
parts_of i v vs = (i.identity.bytes, (i.consist.counter, (car_of v, cars vs)))

back_by : (i : Item) → IsLine i → (vs : List Vehicle) → vs ≡ i.consist.vehicles → (p : Parts) × GoodParts p × (line_text i ≡ parts_text p) × (item_of p ≡ i)
back_by i g [] e = absurd (omega (arith, g.some, ap length e))
back_by i g (v ∷ vs) e =
    let each = subst (AllByRecursion IsVehicle) (sym e) g.each in
    let same : item_of (parts_of i v vs) ≡ i = ap (λ z. record { identity = i.identity; consist = record { counter = i.consist.counter; vehicles = z } }) (ap (λ z. v ∷ z) (vehicles-cars vs) ∙ e) in (
      parts_of i v vs,
      ((g.whole, g.bytes), ((omega (arith, g.counted), omega (arith, g.fits)), ((each.0.named, each.0.faced), (omega (arith, length-map car_of vs, ap length e, g.few), good_cars vs each.1)))),
      sym (ap line_text same) ∙ line_parts (parts_of i v vs),
      same,
    )

back : (i : Item) → IsLine i → (p : Parts) × GoodParts p × (line_text i ≡ parts_text p)
back i g = let b = back_by i g i.consist.vehicles refl in (b.0, b.1, b.2)

-- where the parts break, so does the line
pub line_breaks : (t : List ℕ) (k : ℕ) → Breaks GoodParts parts_text t k → Breaks IsLine line_text t k
line_breaks t k b = same_breaks GoodParts parts_text IsLine line_text t k into back b

front_parts : Front GoodParts parts_text
front_parts =
    front_both (Bytes 16) bytes_text GoodTail tail_text (front_identity 16)
    (front_both Counter counter_text GoodCars cars_text front_counter (front_both GoodCar car (Few 31) others front_car (front_others 31)))

pub front_line : Front IsLine line_text
front_line v v' w w' g g' e =
    let a = back_by v g v.consist.vehicles refl in
    let b = back_by v' g' v'.consist.vehicles refl in
    let p = front_parts a.0 b.0 w w' a.1 b.1 (sym (ap (λ z. z ++ w) a.2) ∙ e ∙ ap (λ z. z ++ w') b.2) in
    (sym a.3 ∙ ap item_of p.0 ∙ b.3, p.1)

-- the exits of the reader of a line

stuck_line : {S : Type 0} {c d : Cursor} {x : Refusal} (to : S → Item) → Takes {R = Parts} GoodParts parts_text same c d (Err x) → Takes IsLine line_text to c d (Err x)
stuck_line to a = stuck_same GoodParts parts_text IsLine line_text to into back a

module _ {S : Type 0} (to : S → Item) where
  pub in_identity : {c d : Cursor} {x : Refusal} → Takes (Bytes 16) bytes_text bytes_of c d (Err x) → Takes IsLine line_text to c d (Err x)
  in_identity a = stuck_line to (first_stuck (Bytes 16) bytes_text GoodTail tail_text same (1, (some, [])) some_tail a)

  pub in_counter : {c d e : Cursor} {i : Identity} {x : Refusal} → Takes (Bytes 16) bytes_text bytes_of c d (Ok i) → Takes Counter counter_text same d e (Err x) → Takes IsLine line_text to c e (Err x)
  in_counter a b =
      stuck_line to
      (second_stuck (Bytes 16) bytes_text GoodTail tail_text same (front_identity 16) a (first_stuck Counter counter_text GoodCars cars_text same (some, []) some_cars b))

  pub in_first_car : {c d e f : Cursor} {i : Identity} {n : ℕ} {x : Refusal} → Takes (Bytes 16) bytes_text bytes_of c d (Ok i) → Takes Counter counter_text same d e (Ok n) → Takes GoodCar car car_of e f (Err x) → Takes IsLine line_text to c f (Err x)
  in_first_car a b k =
      stuck_line to
      (second_stuck (Bytes 16) bytes_text GoodTail tail_text same (front_identity 16) a
      (second_stuck Counter counter_text GoodCars cars_text same front_counter b
      (first_stuck GoodCar car (Few 31) others same [] (omega arith, tt) k)))

  pub in_others : {R : Type 0} {of : R → List Car} {c d e f g : Cursor} {i : Identity} {n : ℕ} {v : Vehicle} {x : Refusal} → Takes (Bytes 16) bytes_text bytes_of c d (Ok i) → Takes Counter counter_text same d e (Ok n) → Takes GoodCar car car_of e f (Ok v) → Takes (Few 31) others of f g (Err x) → Takes IsLine line_text to c g (Err x)
  in_others a b k o =
      stuck_line to
      (second_stuck (Bytes 16) bytes_text GoodTail tail_text same (front_identity 16) a
      (second_stuck Counter counter_text GoodCars cars_text same front_counter b
      (second_stuck GoodCar car (Few 31) others same front_car k o)))

pub whole : {S R₄ : Type 0} (to : S → Item) {of₄ : R₄ → List Car} {c d e f g : Cursor} {i : Identity} {n : ℕ} {v : Vehicle} {m : R₄} (s : S) (vs : List Vehicle) → of₄ m ≡ cars vs → to s ≡ record { identity = i; consist = record { counter = n; vehicles = v ∷ vs } }
    → Takes (Bytes 16) bytes_text bytes_of c d (Ok i) → Takes Counter counter_text same d e (Ok n) → Takes GoodCar car car_of e f (Ok v) → Takes (Few 31) others of₄ f g (Ok m) → Takes IsLine line_text to c g (Ok s)
whole to {of₄} {c} {d} {e} {f} {g} {i} {n} {v} {m} s vs q h ri rn rv ro =
    let p : Parts = (i.bytes, (n, (car_of v, cars vs))) in
    let ro' = taken_as (Few 31) others same (cars vs) (sym q) ro in
    let t : Takes {R = Parts} GoodParts parts_text same c g (Ok p) =
    both_taken (Bytes 16) bytes_text GoodTail tail_text same ri
    (both_taken Counter counter_text GoodCars cars_text same rn (both_taken GoodCar car (Few 31) others same rv ro' refl) refl) refl in
    let same_item : item_of p ≡ to s = ap (λ z. record { identity = i; consist = record { counter = n; vehicles = v ∷ z } }) (vehicles-cars vs) ∙ sym h in
    record {
      stays = t.stays;
      answer = subst (λ z. Reads IsLine line_text c.text.now c.at z g.at) same_item
          (record { good = good_line p t.answer.good; here = t.answer.here ∙ ap (λ z. z ++ drop g.at c.text.now) (sym (line_parts p)); long = t.answer.long ∙ ap (λ z. c.at + length z) (sym (line_parts p)); within = t.answer.within });
    }
