-- What the reader of a list answers.
use Rattle.std.specs.Prelude.{◌≡◌, ℕ, ◌+◌, ◌<◌, ◌≤◌, List, ◌++◌, length, take, Ok, Err, Result}
use Rattle.std.specs.List.{AllByRecursion}
use Rattle.train.specs.declared.entries.Vehicle.{Vehicle}
use Rattle.train.specs.declared.refusal.Refusal.{Refusal}
use Rattle.fleet_list.specs.declared.tables.Head.{Head}
use Rattle.fleet_list.specs.declared.tables.Tables.{Tables}
use Rattle.fleet.specs.Books.{Item, vehicles_in}
use Rattle.fleet_list.specs.Forms.{Breaks, fault}
use Rattle.fleet_list.specs.Lists.{IsLine, line_text, list_text}
use Rattle.fleet_list.specs.Tables.{gathered, counts}

-- Behind whole lines the text goes on, and breaks at byte k of the line that follows. The place names that line, and the
-- first byte with which no line goes on, or one past the end of the text; lines and bytes count from 1.
pub record Broken (t : List ℕ) (f : Refusal) : Type 0 where
  pub whole : List Item
  pub good : AllByRecursion IsLine whole
  pub rest : List ℕ
  pub k : ℕ
  pub here : t ≡ list_text whole ++ rest
  pub some : 0 < length rest
  pub breaks : Breaks IsLine line_text rest k
  pub is : f ≡ fault (length whole + 1) (k + 1)

-- the lines stand in the tables
pub record Held (is : List Item) (heads : List Head) (vehicles : List Vehicle) (lines total : ℕ) : Type 0 where
  pub items : gathered (take lines heads) vehicles ≡ is
  pub sum : counts (take lines heads) ≡ total

-- the text is these lines, and the tables hold them where there is room
pub record Listed (t : List ℕ) (heads : List Head) (vehicles : List Vehicle) (lines total : ℕ) : Type 0 where
  pub whole : List Item
  pub good : AllByRecursion IsLine whole
  pub is : t ≡ list_text whole
  pub count : length whole ≡ lines
  pub sum : length (vehicles_in whole) ≡ total
  pub held : lines ≤ 200 → total ≤ 2000 → Held whole heads vehicles lines total

abbrev pub ListAnswer : List ℕ → Tables → Result (Unit {0}) Refusal → Type 0
ListAnswer t tables (Ok u) = Listed t tables.heads tables.vehicles tables.lines tables.total
ListAnswer t tables (Err f) = Broken t f
