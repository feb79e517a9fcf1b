-- What the seats of a roster mean.
use Rattle.std.specs.Prelude.{Bool, true, cond, not, ◌&&◌, List, [], ◌∷◌, is_some, Some, None, nat_le}
use Rattle.train.specs.declared.identity.Identity.{Identity}
use Rattle.train.specs.declared.refusal.Part.TheVariants.{Roster}
use Rattle.train.specs.Refusals.{refusal}
use Rattle.fleet.specs.declared.roster.Seat.{Seat}
use Rattle.fleet.specs.Fleets.{Consist, Meaning}
use Rattle.fleet.specs.Rosters.{same_id, consist_checks}

abbrev pub is_here : Identity → Seat → Bool
is_here id s = same_id s.identity id

abbrev pub consist_in : Seat → Consist
consist_in s = record { counter = s.counter; vehicles = s.vehicles.items }

abbrev pub meaning_in : List Seat → Meaning
meaning_in [] id = None
meaning_in (s ∷ ss) id = cond (is_here id s) (Some (consist_in s)) (meaning_in ss id)

-- a seat's counter fits, and its consist passes its checks
abbrev pub sound_seat : Seat → Bool
sound_seat s = nat_le s.counter 4294967295 && not (is_some (refusal Roster (consist_checks s.identity s.counter s.vehicles.items)))

abbrev pub sound_seats : List Seat → Bool
sound_seats [] = true
sound_seats (s ∷ ss) = sound_seat s && sound_seats ss

-- no identity has two seats
abbrev pub apart_seats : List Seat → Bool
apart_seats [] = true
apart_seats (s ∷ ss) = not (is_some (meaning_in ss s.identity)) && apart_seats ss

-- a seat of another consist
abbrev pub elsewhere : Identity → Seat → Bool
elsewhere id s = not (is_here id s)
