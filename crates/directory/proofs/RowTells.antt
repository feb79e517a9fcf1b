-- Sections of rows of one length: equal bytes, equal entries.
use Rattle.std.proofs.Common.{◌≡◌, ℕ, ◌+◌, List, [], ◌∷◌, ◌++◌, map, length, take, drop, sym, refl, ap, ◌∙◌, ap₂, append_assoc, append-nil, arith, length-append}
use Rattle.std.specs.List.{AllByRecursion}
use Rattle.std.proofs.lemmas.List.{take_at, drop_at}
use Rattle.train.proofs.Equal.{identity_same, name_same}
use Rattle.train.specs.declared.facing.Facing.{Facing}
use Rattle.train.specs.declared.facing.Facing.TheVariants.{NotKnown, Direct, Inverse}
use Rattle.directory.specs.Sections.{nobody, rows, section, Seat, consist_row, vehicle_row, operational_sections, firsts, seats}
use Rattle.directory.proofs.Vocabulary.{Sixteen}
use Rattle.train.specs.Facings.{code}
use Rattle.train.specs.declared.identity.Identity.{Identity}
use Rattle.train.specs.declared.name.Name.{Name}
use Rattle.directory.specs.declared.cars.Car.{Car}

-- two lists of one length in front of two others
pub fronts : {X : Type 0} (a b s t : List X) → length a ≡ length b → a ++ s ≡ b ++ t → (a ≡ b) × (s ≡ t)
fronts a b s t e p = (
  sym (take_at a s (length b) e) ∙ ap (take (length b)) p ∙ take_at b t (length b) refl,
  sym (drop_at a s (length b) e) ∙ ap (drop (length b)) p ∙ drop_at b t (length b) refl,
)

-- a row of k bytes gives away the key of what it stands for
module _ {X K : Type 0} (Ok : X → Type 0) (row : ℕ → X → List ℕ) (key : X → K) (k : ℕ) (fixed : (n : ℕ) (x : X) → Ok x → length (row n x) ≡ k) (tells : (n : ℕ) (x y : X) → Ok x → Ok y → row n x ≡ row n y → key x ≡ key y) where
  pub rows_tell : (n : ℕ) (xs ys : List X) (s t : List ℕ) → AllByRecursion Ok xs → AllByRecursion Ok ys → length xs ≡ length ys → rows row n xs ++ s ≡ rows row n ys ++ t
      → (map key xs ≡ map key ys) × (s ≡ t)
  rows_tell n [] [] s t h g e p = (refl, p)
  rows_tell n [] (y ∷ ys) s t h g e p = absurd (omega arith)
  rows_tell n (x ∷ xs) [] s t h g e p = absurd (omega arith)
  rows_tell n (x ∷ xs) (y ∷ ys) s t h g e p =
      let q : row n x ++ (rows row (n + 1) xs ++ s) ≡ row n y ++ (rows row (n + 1) ys ++ t) =
      sym (append_assoc (row n x) (rows row (n + 1) xs) s) ∙ p ∙ append_assoc (row n y) (rows row (n + 1) ys) t in
      let w = fronts (row n x) (row n y) (rows row (n + 1) xs ++ s) (rows row (n + 1) ys ++ t) (fixed n x h.0 ∙ sym (fixed n y g.0)) q in
      let r = rows_tell (n + 1) xs ys s t h.1 g.1 (omega arith) w.1 in
      (ap₂ (λ a b. a ∷ b) (tells n x y h.0 g.0 w.0) r.0, r.1)

  -- a section with its count in front
  pub section_tells : (xs ys : List X) (s t : List ℕ) → AllByRecursion Ok xs → AllByRecursion Ok ys → section row xs ++ s ≡ section row ys ++ t → (map key xs ≡ map key ys) × (s ≡ t)
  section_tells xs ys s t h g p =
      rows_tell 1 xs ys s t h g (cc) (cc)

pub code_tells : (f g : Facing) → code f ≡ code g → f ≡ g
code_tells NotKnown NotKnown e = refl
code_tells NotKnown Direct e = absurd (omega arith)
code_tells NotKnown Inverse e = absurd (omega arith)
code_tells Direct NotKnown e = absurd (omega arith)
code_tells Direct Direct e = refl
code_tells Direct Inverse e = absurd (omega arith)
code_tells Inverse NotKnown e = absurd (omega arith)
code_tells Inverse Direct e = absurd (omega arith)
code_tells Inverse Inverse e = refl

-- what an operational consist's row tells
pub record Spot : Type 0 where
  pub who : Identity
  pub stands : Facing

abbrev pub spot_of : Car → Spot
spot_of c = record { who = c.consist; stands = c.stance }

abbrev pub none : Car → List ℕ
none c = []

pub consist_row_tells : (n : ℕ) (c d : Car) → Sixteen c.consist.bytes → Sixteen d.consist.bytes → consist_row none n c ≡ consist_row none n d → spot_of c ≡ spot_of d
consist_row_tells n c d h g p =
    let w = fronts c.consist.bytes d.consist.bytes _ _ (h ∙ sym g) p in
    let q : code c.stance ≡ code d.stance = cc w.1 in
    let i : c.consist ≡ d.consist = identity_same c.consist d.consist w.0 in
    rw (i, code_tells c.stance d.stance q)

pub consist_row_long : (n : ℕ) (c : Car) → Sixteen c.consist.bytes → length (consist_row none n c) ≡ 19
consist_row_long n c h = simp length-append (omega arith)

-- what an operational vehicle's row tells
pub record Row : Type 0 where
  pub name : Name
  pub lead : Facing
  pub facing : Facing
  pub run : ℕ

abbrev pub row_of : Seat → Row
row_of s = record { name = s.car.name; lead = s.car.lead; facing = s.car.facing; run = s.run }

pub vehicle_row_tells : (n : ℕ) (c d : Seat) → Sixteen c.car.name.bytes → Sixteen d.car.name.bytes → vehicle_row none n c ≡ vehicle_row none n d
    → row_of c ≡ row_of d
vehicle_row_tells n c d h g p =
    let w = fronts c.car.name.bytes d.car.name.bytes _ _ (h ∙ sym g) p in
    let q : code c.car.lead ≡ code d.car.lead = cc w.1 in
    let r : code c.car.facing ≡ code d.car.facing = cc w.1 in
    let b : c.run ≡ d.run = cc w.1 in
    let i : c.car.name ≡ d.car.name = name_same c.car.name d.car.name w.0 in
    rw (i, code_tells c.car.lead d.car.lead q, code_tells c.car.facing d.car.facing r, b)

pub vehicle_row_long : (n : ℕ) (s : Seat) → Sixteen s.car.name.bytes → length (vehicle_row none n s) ≡ 23
vehicle_row_long n s h = simp length-append (omega arith)

-- the two operational sections tell the places of the consists and the rows of the vehicles
pub sections_tell : (cs ds : List Car) → AllByRecursion (λ c. Sixteen c.consist.bytes) (firsts nobody cs) → AllByRecursion (λ c. Sixteen c.consist.bytes) (firsts nobody ds)
    → AllByRecursion (λ s. Sixteen s.car.name.bytes) (seats 0 nobody cs) → AllByRecursion (λ s. Sixteen s.car.name.bytes) (seats 0 nobody ds)
    → operational_sections none none cs ≡ operational_sections none none ds
    → (map spot_of (firsts nobody cs) ≡ map spot_of (firsts nobody ds)) × (map row_of (seats 0 nobody cs) ≡ map row_of (seats 0 nobody ds))
sections_tell cs ds h g i j p =
    let w = section_tells (λ c. Sixteen c.consist.bytes) (consist_row none) spot_of 19 consist_row_long consist_row_tells (firsts nobody cs) (firsts nobody ds) (section (vehicle_row none) (seats 0 nobody cs)) (section (vehicle_row none) (seats 0 nobody ds)) h g p in
    let v = section_tells (λ s. Sixteen s.car.name.bytes) (vehicle_row none) row_of 23 vehicle_row_long vehicle_row_tells (seats 0 nobody cs) (seats 0 nobody ds) [] [] i j (append-nil _ ∙ w.1 ∙ sym (append-nil _)) in
    (w.0, v.0)
