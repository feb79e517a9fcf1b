-- Why a list has no coach order, in plain words: no other check can fail, and no buffer is too short.
use Rattle.std.specs.Prelude.{ℕ, ◌+◌, ◌-◌, cond, List, [], ◌∷◌, map, length, Option, nat_le}
use Rattle.std.specs.Str.{bytes_eq}
use Rattle.train.specs.declared.entries.Vehicle.{Vehicle}
use Rattle.train.specs.declared.refusal.Part.TheVariants.{Text, Bench, Composing}
use Rattle.train.specs.declared.refusal.Place.TheVariants.{At}
use Rattle.train.specs.declared.refusal.Reason.TheVariants.{ConsistCount, VehicleCount, IdentityOrder, EntryCount, Repeated, TrainLength, SharedName}
use Rattle.train.specs.declared.refusal.Refusal.{Refusal}
use Rattle.train.specs.Refusals.{Check, Rule, must, each, alone, fresh, by, keeps, first_breach, breach, or_else, refusal}
use Rattle.fleet.specs.Books.{Item, vehicles_in}
use Rattle.fleet_list.specs.Imports.{identity_in, vehicles_of, rising, names_apart}
use Rattle.bench.specs.Facts.{within}

-- the number, from n on, of the consist in which the p-th vehicle of all stands
abbrev pub holder : ℕ → List Item → ℕ → ℕ
holder n [] p = 0
holder n (i ∷ is) p = cond (nat_le p (length i.consist.vehicles)) n (holder (n + 1) is (p - length i.consist.vehicles))

-- no vehicle has the name of one before it
abbrev pub fresh_name : Rule Vehicle
fresh_name = fresh (by bytes_eq (λ v. v.name.bytes))

-- no name stands twice; the place is the consist of the first vehicle with the name of one before it
abbrev pub named_apart : List Item → Check
named_apart is =
    record { ok = keeps fresh_name [] (vehicles_in is); reason = SharedName; place = At (holder 1 is (first_breach fresh_name [] (vehicles_in is))) }

-- 1 to 63 consists, 63 vehicles at most, no name twice
abbrev pub plainly : List Item → Option Refusal
plainly is =
    or_else (breach Bench (must (within 1 63 (length is)) EntryCount))
    (refusal Composing (must (nat_le (length (vehicles_in is)) 63) TrainLength ∷ named_apart is ∷ []))

-- the lines are those of a fleet: 200 at most, 2000 vehicles at most, identities that rise, no name twice in a line
abbrev pub line_checks : List Item → List Check
line_checks is =
    must (nat_le (length is) 200) ConsistCount
    ∷ must (nat_le (length (vehicles_in is)) 2000) VehicleCount
    ∷ each rising IdentityOrder (map identity_in is)
    ∷ each (alone names_apart) Repeated (map vehicles_of is)
    ∷ []

abbrev pub refusal_of_list : List Item → Option Refusal
refusal_of_list is = or_else (refusal Text (line_checks is)) (plainly is)
