-- Lengths of texts.
use Rattle.std.proofs.Common.{◌≡◌, ℕ, ◌+◌, ◌*◌, ◌/◌, ◌%◌, ◌^◌, ◌<◌, ◌≤◌, Bool, true, false, cond, eqb, List, [], ◌∷◌, ◌++◌, length, decimal, refl, ap, ◌∙◌, arith, length-append}
use Rattle.std.specs.List.{flat_map, sum_by}
use Rattle.std.proofs.lemmas.Fmt.{decimal_digit, decimal_step, decimal_by_steps}
use Rattle.std.proofs.lemmas.List.Concat.{length-flat_map}
use Rattle.train.specs.Names.{text_of}
use Rattle.train.specs.declared.entries.Vehicle.{Vehicle}
use Rattle.train.specs.declared.facing.Facing.{Facing}
use Rattle.train.specs.declared.facing.Facing.TheVariants.{NotKnown, Direct, Inverse}
use Rattle.fleet.specs.Books.{Item}
use Rattle.fleet_list.specs.Lists.{line_text}
use Rattle.fleet_list.specs.Texts.{byte_text, escaped, quoted, sign, vehicle_text}

pub twice : (bs : List ℕ) → length (flat_map byte_text bs) ≡ 2 * length bs
twice [] = refl
twice (b ∷ bs) = omega (arith, twice bs)

pub long_one : (n : ℕ) → n < 10 → length (decimal n) ≡ 1
long_one n l = ap length (decimal_digit n l)

pub long_more : (n : ℕ) → 10 ≤ n → n < 2 ^ 32 → length (decimal n) ≡ length (decimal (n / 10)) + 1
long_more n l m = ap length (decimal_step n l (omega arith)) ∙ length-append (decimal (n / 10)) ((48 + n % 10) ∷ [])

pub quoted_long : (n : List ℕ) → length (quoted n) ≡ length (flat_map escaped n) + 2
quoted_long n = omega (arith, length-append (flat_map escaped n) (34 ∷ []))

sign_long : (f : Facing) → length (sign f) ≡ 1
sign_long NotKnown = refl
sign_long Direct = refl
sign_long Inverse = refl

pub vehicle_long : (v : Vehicle) → length (vehicle_text v) ≡ length (quoted (text_of v.name.bytes)) + 2
vehicle_long v = omega (arith, length-append (quoted (text_of v.name.bytes)) (sign v.facing), sign_long v.facing)

pub line_sized : (i : Item) → length (line_text i) ≡ length (flat_map byte_text i.identity.bytes) + length (decimal i.consist.counter) + length (flat_map vehicle_text i.consist.vehicles) + 2
line_sized i =
    let a = flat_map vehicle_text i.consist.vehicles in
    let b = decimal i.consist.counter in
    omega (arith, length-append (flat_map byte_text i.identity.bytes) (32 ∷ (b ++ (a ++ 10 ∷ []))), length-append b (a ++ 10 ∷ []), length-append a (10 ∷ []))

-- bounds that are large enough

abbrev Few : ℕ → List ℕ → Type 0
Few n ds = length ds ≤ n + 1

few_one : (n : ℕ) → n < 10 → Few n ((48 + n) ∷ [])
few_one n l = omega arith

few_more : (n : ℕ) (ds : List ℕ) → 10 ≤ n → Few (n / 10) ds → Few n (ds ++ (48 + n % 10) ∷ [])
few_more n ds l h = omega (arith, length-append ds ((48 + n % 10) ∷ []), h)

pub decimal_few : (n : ℕ) → n < 2 ^ 32 → length (decimal n) ≤ n + 1
decimal_few n l = decimal_by_steps Few few_one few_more n (omega arith)

escaped_by : (b : ℕ) (x y : Bool) → length (cond x (92 ∷ b ∷ []) (cond y (92 ∷ b ∷ []) (b ∷ []))) ≤ 2
escaped_by b true y = omega arith
escaped_by b false true = omega arith
escaped_by b false false = omega arith

pub escaped_few : (n : List ℕ) → length (flat_map escaped n) ≤ 2 * length n
escaped_few [] = omega arith
escaped_few (b ∷ n) = omega (arith, length-append (escaped b) (flat_map escaped n), escaped_by b (eqb b 34) (eqb b 92), escaped_few n)

-- the sum of the lengths
pub flat_long : {V : Type 0} (f : V → List ℕ) (es : List V) → length (flat_map f es) ≡ sum_by (λ e. length (f e)) es
flat_long f es = length-flat_map f es
