-- What opening says of the bytes of a book, and how long the list of its fleet can be.
use Rattle.std.proofs.Common.{◌≡◌, ℕ, ◌+◌, ◌*◌, ◌^◌, ◌<◌, ◌≤◌, eqb, leb, List, [], ◌∷◌, ◌++◌, length, None, decimal, ap, arith, length-append}
use Rattle.std.specs.List.{flat_map, AllByRecursion}
use Rattle.std.proofs.lemmas.Bool.{and_parts, leb-true, eqb-true}
use Rattle.train.specs.declared.entries.Vehicle.{Vehicle}
use Rattle.train.specs.declared.refusal.Part.TheVariants.{Book}
use Rattle.train.specs.declared.refusal.Reason.TheVariants.{BookHead, ConsistCount, VehicleCount}
use Rattle.train.specs.Names.{text_of}
use Rattle.train.specs.Refusals.{must, refusal}
use Rattle.fleet.specs.Fleets.{IsVehicle}
use Rattle.fleet.specs.Books.{Item, IsItem, IsFleet, book_checks, headed, reaching, fitting, count_of, total_of, consist_rows, vehicle_rows}
use Rattle.fleet.specs.Heads.{first_met}
use Rattle.fleet.specs.Whole.{passed}
use Rattle.fleet_list.specs.Entries.{IsLong}
use Rattle.fleet_list.specs.Lists.{line_text, list_text}
use Rattle.fleet_list.specs.Texts.{byte_text, vehicle_text}
use Rattle.fleet_list.proofs.Pads.{text_is}
use Rattle.fleet_list.proofs.Sizes.{twice, quoted_long, vehicle_long, decimal_few, escaped_few}

pub is_long : (bs : List ℕ) → refusal Book (book_checks bs) ≡ None → IsLong bs
is_long bs e =
    let t = first_met Book (must (headed bs) BookHead) _ e in
    let u = first_met Book (must (reaching bs) ConsistCount) _ t.1 in
    let v = first_met Book (must (fitting bs) VehicleCount) _ u.1 in
    let r = and_parts (leb (count_of bs) 200) _ u.0 in
    let f = and_parts (leb (total_of bs) 2000) (eqb (length bs) (6 + 21 * count_of bs + 17 * total_of bs)) v.0 in
    record {
      few = leb-true (count_of bs) 200 r.0;
      small = leb-true (total_of bs) 2000 f.0;
      long = eqb-true (length bs) (6 + 21 * count_of bs + 17 * total_of bs) f.1;
      sum = (passed (consist_rows bs) (total_of bs) (vehicle_rows bs) v.1).sum;
    }

-- bounds that are large enough

vehicle_few : (v : Vehicle) → IsVehicle v → length (vehicle_text v) ≤ 34
vehicle_few v g =
    let n = g.named in
    omega (arith, vehicle_long v, quoted_long (text_of v.name.bytes), escaped_few (text_of v.name.bytes), ap length (text_is v.name.bytes n), n.few)

vehicles_few : (vs : List Vehicle) → AllByRecursion IsVehicle vs → length (flat_map vehicle_text vs) ≤ 34 * length vs
vehicles_few [] h = omega arith
vehicles_few (v ∷ vs) h = omega (arith, length-append (vehicle_text v) (flat_map vehicle_text vs), vehicle_few v h.0, vehicles_few vs h.1)

line_few : (i : Item) → IsItem i → length (line_text i) ≤ 4294970000
line_few i g =
    let c = g.consist in
    let a = flat_map vehicle_text i.consist.vehicles in
    let b = decimal i.consist.counter in
    omega (
      arith,
      length-append (flat_map byte_text i.identity.bytes) (32 ∷ (b ++ (a ++ 10 ∷ []))),
      length-append b (a ++ 10 ∷ []),
      length-append a (10 ∷ []),
      twice i.identity.bytes,
      g.whole,
      decimal_few i.consist.counter (omega (arith, c.fits)),
      c.fits,
      vehicles_few i.consist.vehicles c.each,
      c.few,
    )

list_few : (is : List Item) → AllByRecursion IsItem is → length (list_text is) ≤ 4294970000 * length is
list_few [] h = omega arith
list_few (i ∷ is) h = omega (arith, length-append (line_text i) (list_text is), line_few i h.0, list_few is h.1)

pub list_small : (is : List Item) → IsFleet is → length (list_text is) < 2 ^ 64
list_small is f = omega (arith, list_few is f.each, f.short)
