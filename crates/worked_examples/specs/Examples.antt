-- The worked examples: what is answered of the runs on a train of two consists, a checksum, two texts.
use Rattle.std.specs.Prelude.{◌≡◌, ℕ, List, [], ◌∷◌, map}
use Rattle.std.specs.List.{flat_map}
use Rattle.train.specs.declared.entries.Coupled.{Coupled}
use Rattle.train.specs.declared.facing.Facing.{Facing}
use Rattle.train.specs.declared.facing.Facing.TheVariants.{NotKnown, Direct, Inverse}
use Rattle.train.specs.declared.name.Name.{Name}
use Rattle.train.specs.declared.refusal.Part.TheVariants.{Composing}
use Rattle.train.specs.declared.refusal.Reason.{Reason}
use Rattle.train.specs.declared.refusal.Reason.TheVariants.{LineForm, SeveralClaims, ClaimBeyond, InsertedInside, BufferShort}
use Rattle.train.specs.Facings.{code}
use Rattle.train.specs.Octets.{zeros}
use Rattle.train.specs.Refusals.{number, refused_at}
use Rattle.train.specs.Turning.{turned_list, turned_coupled, coupled}
use Rattle.sc32.specs.Checksum.{checksum}
use Rattle.fleet_list.specs.Laws.{Examples as TextExamples}
use Rattle.bench.specs.Calls.{Call}
use Rattle.bench.specs.Calls.Call.{inaugurate, claim}
use Rattle.bench.specs.Facts.{Facts, nothing, after_all}
use Rattle.bench.specs.Standing.{Taken}
use Rattle.directory.specs.declared.cars.Car.{Car}
use Rattle.directory.specs.Operation.{orientation, operational, names}
use Rattle.directory.specs.Sections.{composition, firsts, seats, nobody, consist_number, vehicle_number, lead_byte}
use Rattle.directory.specs.Composing.Outcome.{refused, written}
use Rattle.directory.specs.Part.{leading_part}
use Rattle.directory.specs.Law.{IsFleet, answer, Led, SameLead}
use Rattle.worked_examples.specs.Runs.{id_a, id_b, a1, a2, a3, b1, b2, b3, wagon, fleet, formation, led, led_turned, fourth, third, both, beyond, side}

-- what stands after a run
abbrev pub standing : List Call → Facts
standing = after_all nothing

abbrev pub bytes : List Call → List ℕ
bytes run = composition (standing run) fleet

-- into so many bytes the run composes
abbrev pub Composes : List Call → ℕ → Type 0
Composes run room = answer (side run room) ≡ written (bytes run)

-- it is refused for this reason, which has this number, at this place
pub record Refused (run : List Call) (room : ℕ) (reason : Reason) (n at : ℕ) : Type 0 where
  pub answers : answer (side run room) ≡ refused (refused_at Composing reason at)
  pub numbered : number reason ≡ n

-- Of each vehicle from the head: name, train number, facing, leading mark with claimed direction, operational consist number.
abbrev pub cars : List Call → List Car
cars run = operational (standing run) fleet

abbrev pub order : List Call → List Name
order run = names (cars run)

abbrev pub numbers : List Call → List ℕ
numbers run = flat_map (vehicle_number (standing run) fleet) (cars run)

abbrev pub facings : List Call → List Facing
facings run = map (λ c. c.facing) (cars run)

abbrev pub marks : List Call → List (ℕ × ℕ)
marks run = map (λ c. (lead_byte c.lead, code c.lead)) (cars run)

abbrev pub seating : List Call → List ℕ
seating run = map (λ s. s.run) (seats 0 nobody (cars run))

-- Of each operational consist: identity with operational facing, and train number.
abbrev pub consists : List Call → List Coupled
consists run = map (λ c. coupled c.consist c.stance) (firsts nobody (cars run))

abbrev pub consist_numbers : List Call → List ℕ
consist_numbers run = flat_map (consist_number (standing run)) (firsts nobody (cars run))

pub record Examples : Type 0 where
  -- both consists keep the rules of a fleet
  pub lawful : IsFleet fleet
  -- A inverse, B direct turns into B inverse, A direct
  pub turned : turned_list turned_coupled formation ≡ coupled id_b Inverse ∷ coupled id_a Direct ∷ []
  -- vehicle 3 of B claimed in direction 2: composes in 251 bytes
  pub led_composes : Composes led 251
  -- 250 bytes are too few
  pub led_short : Refused led 250 BufferShort 24 251
  -- direction 2 in B, which is direct, is inverse along the train
  pub led_orientation : orientation (standing led) ≡ Inverse
  -- so the last vehicle of B is the head
  pub led_order : order led ≡ b3 ∷ b2 ∷ b1 ∷ a1 ∷ a2 ∷ a3 ∷ []
  -- and train numbers fall
  pub led_numbers : numbers led ≡ 6 ∷ 5 ∷ 4 ∷ 3 ∷ 2 ∷ 1 ∷ []
  -- B stands inverse, A direct
  pub led_consists : consists led ≡ coupled id_b Inverse ∷ coupled id_a Direct ∷ []
  -- B is the second along the formation
  pub led_consist_numbers : consist_numbers led ≡ 2 ∷ 1 ∷ []
  -- three vehicles each
  pub led_seating : seating led ≡ 1 ∷ 1 ∷ 1 ∷ 2 ∷ 2 ∷ 2 ∷ []
  -- each as its consist, since each is direct in it
  pub led_facings : facings led ≡ Inverse ∷ Inverse ∷ Inverse ∷ Direct ∷ Direct ∷ Direct ∷ []
  -- the head leads in direction 2, and no other does
  pub led_marks : marks led ≡ (2, 2) ∷ (1, 0) ∷ (1, 0) ∷ (1, 0) ∷ (1, 0) ∷ (1, 0) ∷ []
  -- the same claim on the turned formation composes
  pub turned_composes : Composes led_turned 251
  -- B is inverse in it
  pub turned_orientation : orientation (standing led_turned) ≡ Direct
  -- the same order from the head
  pub turned_order : order led_turned ≡ b3 ∷ b2 ∷ b1 ∷ a1 ∷ a2 ∷ a3 ∷ []
  -- but train numbers rise
  pub turned_numbers : numbers led_turned ≡ 1 ∷ 2 ∷ 3 ∷ 4 ∷ 5 ∷ 6 ∷ []
  -- and B is the first
  pub turned_consist_numbers : consist_numbers led_turned ≡ 1 ∷ 2 ∷ []
  -- what was written has the same leading-end part
  pub same_part : leading_part (bytes led) ≡ leading_part (bytes led_turned)
  -- a claim stands
  pub led_claimed : Led (side led 251)
  -- on both
  pub turned_claimed : Led (side led_turned 251)
  -- so by the law of two runs they lead the same train
  pub same_lead : SameLead (side led 251) (side led_turned 251)
  -- WAGON1 confirmed fourth: composes in 44 bytes more
  pub fourth_composes : Composes fourth 295
  -- in the confirmed order
  pub fourth_order : order fourth ≡ b3 ∷ b2 ∷ b1 ∷ wagon ∷ a1 ∷ a2 ∷ a3 ∷ []
  -- an inserted vehicle has no train number
  pub fourth_numbers : numbers fourth ≡ 6 ∷ 5 ∷ 4 ∷ 0 ∷ 3 ∷ 2 ∷ 1 ∷ []
  -- it is operational consist 2, and A becomes 3
  pub fourth_seating : seating fourth ≡ 1 ∷ 1 ∷ 1 ∷ 2 ∷ 3 ∷ 3 ∷ 3 ∷ []
  -- the inserted consist has zero identity and no facing
  pub fourth_consists : consists fourth ≡ coupled id_b Inverse ∷ coupled (record { bytes = zeros }) NotKnown ∷ coupled id_a Direct ∷ []
  -- confirmed third it stands inside B
  pub third_refused : (room : ℕ) → Refused third room InsertedInside 23 0
  -- B and A claimed together
  pub both_refused : (room : ℕ) → Refused both room SeveralClaims 20 0
  -- vehicle 4 of B may be claimed
  pub beyond_taken : Taken (inaugurate 1 formation ∷ []) (claim id_b 4 2)
  -- and is refused in composing, at B's train number
  pub beyond_refused : (room : ℕ) → Refused beyond room ClaimBeyond 21 2
  -- the checksum of the byte 01 hex from seed 0
  pub checked : checksum 0 (1 ∷ []) ≡ 0xF4AC_FB13
  -- a name with a quote mark in it, and a line that breaks at byte 39
  pub texts : TextExamples
  -- for the reason with number 1
  pub line_number : number LineForm ≡ 1
