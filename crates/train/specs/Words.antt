-- Words: the text by which each value is printed.
use Rattle.std.specs.Prelude.{ℕ, List, ◌++◌, codes, decimal}
use Rattle.train.specs.declared.facing.Facing.{Facing}
use Rattle.train.specs.declared.facing.Facing.TheVariants.{NotKnown, Direct, Inverse}
use Rattle.train.specs.declared.refusal.Part.{Part}
use Rattle.train.specs.declared.refusal.Part.TheVariants as part
use Rattle.train.specs.declared.refusal.Place.{Place}
use Rattle.train.specs.declared.refusal.Place.TheVariants.{At, InLine}

-- the sign of a facing
abbrev pub facing_text : Facing → List ℕ
facing_text NotKnown = codes "?"
facing_text Direct = codes "+"
facing_text Inverse = codes "-"

-- the name of a part
abbrev pub part_text : Part → List ℕ
part_text part.Text = codes "text"
part_text part.Book = codes "book"
part_text part.Roster = codes "roster"
part_text part.Bench = codes "bench"
part_text part.Composing = codes "composing"

-- a place that is counted, or a line and a byte of it
abbrev pub place_text : Place → List ℕ
place_text (At n) = codes "place " ++ decimal n
place_text (InLine line byte) = codes "line " ++ (decimal line ++ (codes " byte " ++ decimal byte))
