-- What a roster means.
use Rattle.fleet.specs.declared.roster.Roster.{Roster}
use Rattle.fleet.specs.Fleets.{Meaning}
use Rattle.fleet.specs.Seats.{meaning_in}

abbrev pub meant : Roster → Meaning
meant r = meaning_in r.seats.items
