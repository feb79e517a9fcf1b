-- The rows of a book and the tables.
use Rattle.std.specs.Prelude.{◌≡◌, ℕ, ◌+◌, ◌*◌, ◌≤◌, List, [], ◌∷◌, ◌++◌, length, take}
use Rattle.train.specs.declared.entries.Vehicle.{Vehicle}
use Rattle.fleet.specs.Books.{four, count_of, total_of, consist_rows, fleet_of}
use Rattle.fleet.specs.Rows.{identity_of, counter_of, size_of, sizes}
use Rattle.fleet_list.specs.declared.tables.Head.{Head}
use Rattle.fleet_list.specs.Tables.{gathered, counts}

-- the row of a head
abbrev pub head_row : Head → List ℕ
head_row h = h.identity.bytes ++ (four h.counter ++ (h.count ∷ []))

-- the head that a row writes
abbrev pub head_of : List ℕ → Head
head_of row = record { identity = record { bytes = identity_of row }; counter = counter_of row; count = size_of row }

abbrev pub head_identity : Head → List ℕ
head_identity h = h.identity.bytes

-- the bytes are as long as their two counts say
pub record IsLong (bs : List ℕ) : Type 0 where
  pub few : count_of bs ≤ 200
  pub small : total_of bs ≤ 2000
  pub long : length bs ≡ 6 + 21 * count_of bs + 17 * total_of bs
  pub sum : sizes (consist_rows bs) ≡ total_of bs

-- the tables hold what the bytes of a book mean
pub record Loaded (bs : List ℕ) (heads : List Head) (vehicles : List Vehicle) (count total : ℕ) : Type 0 where
  pub few : count ≤ 200
  pub small : total ≤ 2000
  pub sum : counts (take count heads) ≡ total
  pub items : gathered (take count heads) (take total vehicles) ≡ fleet_of bs
