-- The checks of composing, in order, and its outcome.
use Rattle.std.specs.Prelude.{ℕ, ◌-◌, Bool, true, false, not, ◌&&◌, ◌||◌, List, [], ◌∷◌, ◌++◌, length, is_some, Some, None, filter, Option, nat_le, slice_index_or}
use Rattle.std.specs.List.{list_any}
use Rattle.std.specs.Str.{bytes_eq}
use Rattle.train.specs.declared.identity.Identity.{Identity}
use Rattle.train.specs.declared.name.Name.{Name}
use Rattle.train.specs.declared.entries.Coupled.{Coupled}
use Rattle.train.specs.declared.refusal.Part.TheVariants.{Composing}
use Rattle.train.specs.declared.refusal.Place.TheVariants.{At}
use Rattle.train.specs.declared.refusal.Reason.TheVariants.{NoFormation, ConsistAbsent, TrainLength, SharedName, SeveralClaims, ClaimBeyond, ListOrder, InsertedInside, BufferShort}
use Rattle.train.specs.declared.refusal.Refusal.{Refusal}
use Rattle.train.specs.Identities.{same_identity, same_name}
use Rattle.train.specs.Octets.{zeros}
use Rattle.train.specs.Refusals.{Check, Rule, must, each, alone, fresh, by, keeps, first_breach, among, refusal}
use Rattle.fleet.specs.Fleets.{Meaning, vehicles_of}
use Rattle.bench.specs.declared.claims.Claim.{Claim}
use Rattle.bench.specs.Facts.{Facts, some}
use Rattle.directory.specs.declared.cars.Car.{Car}
use Rattle.directory.specs.Cars.{train}
use Rattle.directory.specs.Operation.{leads, from_head, names, ordered, strange}
use Rattle.directory.specs.Sections.{composition, size, place}

-- the fleet has the entry's consist
abbrev pub has : Meaning → Coupled → Bool
has m e = is_some (m e.identity)

-- no vehicle has the name of one before it
abbrev pub fresh_name : Rule Car
fresh_name = fresh (by bytes_eq (λ c. c.name.bytes))

-- the train number of the consist of the vehicle at a place along the train
abbrev pub consist_at : List Coupled → List Car → ℕ → ℕ
consist_at es cs p = place (λ e. same_identity (slice_index_or cs (p - 1) (strange (record { bytes = zeros }))).consist e.identity) 1 es

-- the check that no name stands in two consists; its place is the second's consist
abbrev pub names_apart : List Coupled → List Car → Check
names_apart es cs = record { ok = keeps fresh_name [] cs; reason = SharedName; place = At (consist_at es cs (first_breach fresh_name [] cs)) }

-- the claimed vehicle number is one of the consist's
abbrev pub reaches : Option Claim → ℕ → Bool
reaches None count = true
reaches (Some c) count = nat_le c.vehicle count

abbrev pub in_reach : Meaning → (Identity → Option Claim) → Coupled → Bool
in_reach m claims e = reaches (claims e.identity) (length (vehicles_of (m e.identity)))

-- the confirmed list with the names that the train lacks struck out
abbrev pub struck : List Name → List Name → List Name
struck held = filter (λ n. among same_name n held)

abbrev pub same_names : List Name → List Name → Bool
same_names [] [] = true
same_names [] (y ∷ ys) = false
same_names (x ∷ xs) [] = false
same_names (x ∷ xs) (y ∷ ys) = same_name x y && same_names xs ys

-- a confirmed list, if there is one, has the train's names in operational order
abbrev pub in_order : List Name → List Name → Bool
in_order [] held = true
in_order (n ∷ ns) held = same_names (struck held (n ∷ ns)) held

abbrev pub inserted : Car → Bool
inserted c = bytes_eq c.consist.bytes zeros

-- a car of x is among these
abbrev pub car_of : Identity → List Car → Bool
car_of x cs = list_any (λ c. same_identity x c.consist) cs

-- among these an inserted car stands before a car of x
abbrev pub split : Identity → List Car → Bool
split x [] = false
split x (c ∷ cs) = (inserted c && car_of x cs) || split x cs

-- an inserted car stands between two of one consist
abbrev pub parted : List Car → Bool
parted [] = false
parted (c ∷ cs) = (not (inserted c) && split c.consist cs) || parted cs

-- the checks that look at the formation and the fleet alone
abbrev pub formation_checks : Facts → Meaning → List Check
formation_checks f m =
    must (some f.formation) NoFormation
    ∷ each (alone (has m)) ConsistAbsent f.formation
    ∷ must (nat_le (length (train m f.claims f.formation)) 63) TrainLength
    ∷ []

-- the checks of the train's names and the claims
abbrev pub train_checks : Facts → Meaning → List Check
train_checks f m =
    names_apart f.formation (train m f.claims f.formation)
    ∷ must (nat_le (length (leads f.claims f.formation)) 1) SeveralClaims
    ∷ each (alone (in_reach m f.claims)) ClaimBeyond f.formation
    ∷ []

-- the checks of the confirmed list, over the train from its head
abbrev pub order_checks : List Name → List Car → List Check
order_checks confirmed head = must (in_order confirmed (names head)) ListOrder ∷ must (not (parted (ordered confirmed head))) InsertedInside ∷ []

abbrev pub room_check : Facts → Meaning → ℕ → Check
room_check f m room = record { ok = nat_le (size f m) room; reason = BufferShort; place = At (size f m) }

-- all of them, in order
abbrev pub checks : Facts → Meaning → ℕ → List Check
checks f m room = formation_checks f m ++ (train_checks f m ++ (order_checks f.confirmed (from_head f m) ++ room_check f m room ∷ []))

-- a composition is written, or refused
pub data Outcome : Type 0 where
  refused : Refusal → Outcome
  written : List ℕ → Outcome

abbrev pub outcome : Option Refusal → List ℕ → Outcome
outcome None bytes = written bytes
outcome (Some r) bytes = refused r

-- composing these facts over this fleet into so many bytes
abbrev pub composed_into : Facts → Meaning → ℕ → Outcome
composed_into f m room = outcome (refusal Composing (checks f m room)) (composition f m)
