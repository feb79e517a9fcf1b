-- What a fleet of a desk means: what its book means, or its roster.
use Rattle.std.specs.Prelude.{Some, None, Option}
use Rattle.train.specs.declared.identity.Identity.{Identity}
use Rattle.train.specs.declared.entries.Vehicle.{Vehicle}
use Rattle.fleet.specs.declared.questions.Found.{Found}
use Rattle.fleet.specs.Fleets.{Consist, Lawful}
use Rattle.fleet.specs.Books.{meaning_of}
use Rattle.fleet.specs.Held.{held}
use Rattle.fleet.specs.BookMeantLemmas.{book_lawful}
use Rattle.fleet.specs.Meant.{meant}
use Rattle.fleet.specs.Sound.{roster_lawful}
use Rattle.console.specs.declared.command.Source.{Source}
use Rattle.console.specs.declared.command.Source.TheVariants as source
use Rattle.console.specs.declared.desk.Desk.{Desk}
use Rattle.console.specs.declared.answers.Answer.{Answer}
use Rattle.console.specs.declared.answers.Answer.TheVariants as answer
use Rattle.console.specs.declared.answers.Answer.TheVariants.{Absent}
use Rattle.console.specs.declared.fleets.DeskFleet.{DeskFleet}
use Rattle.console.specs.declared.fleets.DeskFleet.TheVariants.{Book, Roster}

abbrev pub meaning : DeskFleet → Identity → Option Consist
meaning (Book b) id = meaning_of (held b.now) id
meaning (Roster r) id = meant r.now id

pub meaning_lawful : (fleet : DeskFleet) (id : Identity) → Lawful (meaning fleet id)
meaning_lawful (Book b) id = book_lawful b.now id
meaning_lawful (Roster r) id = roster_lawful r.now id

-- what the fleet means that a word names at a desk
abbrev pub meaning_at : Desk → Source → Identity → Option Consist
meaning_at desk source.Book id = meaning_of (held desk.book) id
meaning_at desk source.Roster id = meant desk.roster id

-- a consist is shown by its counter and its vehicle count, and one that is absent as absent
abbrev pub consist_answer : Option Found → Answer
consist_answer None = Absent
consist_answer (Some found) = answer.Consist found

abbrev pub vehicle_answer : Option Vehicle → Answer
vehicle_answer None = Absent
vehicle_answer (Some vehicle) = answer.Vehicle vehicle
