-- Texts: what the console prints of each value.
use Rattle.std.specs.Prelude.{ℕ, false, List, [], ◌∷◌, ◌++◌, Some, None, Ok, Err, Option, Result, codes, decimal, ◌-◌, ◌/◌, ◌%◌, ◌^◌, if◌then◌else◌}
use Rattle.std.specs.List.{flat_map}
use Rattle.std.specs.Fmt.{digits, digit_glyph, format_spec, padded_integral}
use Rattle.train.specs.declared.refusal.Refusal.{Refusal}
use Rattle.train.specs.declared.entries.Coupled.{Coupled}
use Rattle.train.specs.Refusals.{number}
use Rattle.train.specs.Words.{facing_text, part_text, place_text}
use Rattle.directory.specs.declared.comparing.Comparison.{Comparison}
use Rattle.directory.specs.declared.comparing.Likeness.{Likeness}
use Rattle.directory.specs.declared.comparing.LeadingEnds.{LeadingEnds}
use Rattle.directory.specs.declared.comparing.LeadingEnds.TheVariants.{Same, Different, Unled}
use Rattle.console.specs.Outcomes.{composed_as}
use Rattle.console.specs.declared.command.Side.{Side}
use Rattle.console.specs.declared.command.Side.TheVariants.{Left, Right}
use Rattle.console.specs.declared.command.Source.{Source}
use Rattle.console.specs.declared.command.Source.TheVariants.{Book, Roster}
use Rattle.console.specs.declared.answers.Written.{Written}
use Rattle.console.specs.declared.answers.Written.TheVariants.{Imported, Exported, Composed}
use Rattle.console.specs.declared.answers.Filled.{Filled}
use Rattle.console.specs.declared.answers.Answer.{Answer}
use Rattle.console.specs.declared.answers.Answer.TheVariants as answer

-- two hex digits
abbrev pub byte_text : ℕ → List ℕ
byte_text b = digit_glyph false (b / 16) ∷ digit_glyph false (b % 16) ∷ []

abbrev pub hex_text : List ℕ → List ℕ
hex_text bytes = flat_map byte_text bytes

-- eight hex digits
abbrev pub eight_digits : ℕ → List ℕ
eight_digits n = padded_integral (format_spec 32 0 4 8 (2 ^ 64 - 1)) false [] (digits 16 false n)

abbrev pub refused_text : Refusal → List ℕ
refused_text r = codes "refused " ++ (part_text r.part ++ (codes " " ++ (decimal (number r.reason) ++ (codes " " ++ place_text r.place))))

abbrev pub side_text : Side → List ℕ
side_text Left = codes "1"
side_text Right = codes "2"

abbrev pub written_text : Written → List ℕ
written_text (Imported length) = codes "imported " ++ decimal length
written_text (Exported length lines) = codes "exported " ++ (decimal length ++ (codes " " ++ decimal lines))
written_text (Composed length) = codes "composed " ++ decimal length

-- the word for a fleet of a desk
abbrev pub source_text : Source → List ℕ
source_text Book = codes "book"
source_text Roster = codes "roster"

-- what was written, or the refusal
abbrev pub outcome_text : Result Written Refusal → List ℕ
outcome_text (Ok written) = written_text written
outcome_text (Err refusal) = refused_text refusal

-- a buffer whole
abbrev pub bytes_text : List ℕ → List ℕ
bytes_text [] = codes "-"
bytes_text (b ∷ bytes) = hex_text (b ∷ bytes)

abbrev pub filled_text : Filled → List ℕ
filled_text f = outcome_text f.outcome ++ (10 ∷ codes "bytes " ++ bytes_text f.buffer.items)

abbrev pub entry_text : Coupled → List ℕ
entry_text e = hex_text e.identity.bytes ++ facing_text e.facing

abbrev pub ends_text : LeadingEnds → List ℕ
ends_text Same = codes "same"
ends_text Different = codes "different"
ends_text Unled = codes "none"

abbrev pub likeness_text : Likeness → List ℕ
likeness_text l = codes "composition " ++ ((if l.same then codes "same" else codes "different") ++ (10 ∷ codes "leading end " ++ ends_text l.ends))

-- the entries of a formation, a space before each
abbrev pub formation_text : List Coupled → List ℕ
formation_text entries = flat_map (λ e. codes " " ++ entry_text e) entries

-- how the compositions compare, where both composed
abbrev pub likeness_line : Option Likeness → List ℕ
likeness_line None = []
likeness_line (Some l) = 10 ∷ likeness_text l

abbrev pub comparison_text : Comparison → List ℕ
comparison_text c = codes "left " ++ (outcome_text (composed_as c.left) ++ (10 ∷ codes "right " ++ (outcome_text (composed_as c.right) ++ likeness_line c.likeness)))

abbrev pub answer_text : Answer → List ℕ
answer_text (answer.Done word) = word.now
answer_text (answer.Turned entries) = codes "turned" ++ formation_text entries.items
answer_text (answer.Checksum sum) = codes "sc32 " ++ eight_digits sum
answer_text (answer.Consist found) = codes "consist " ++ (decimal found.counter ++ (codes " " ++ decimal found.count))
answer_text (answer.Vehicle vehicle) = codes "vehicle x" ++ (hex_text vehicle.name.bytes ++ facing_text vehicle.facing)
answer_text (answer.Name part) = codes "name " ++ (decimal part.offset ++ (codes " x" ++ hex_text part.bytes.now))
answer_text answer.Absent = codes "absent"
answer_text (answer.Filled filled) = filled_text filled
answer_text (answer.Desk side) = codes "desk " ++ side_text side
answer_text (answer.Compared comparison) = comparison_text comparison
