-- The parts of a book that has passed the checks of its head.
use Rattle.std.specs.Prelude.{◌≡◌, ℕ, ◌*◌, ◌≤◌, List, length}
use Rattle.fleet.specs.Books.{count_of, entries_of, total_of, table_of, consist_rows, vehicle_rows}

pub record Cut (bs : List ℕ) (consists vehicles : List (List ℕ)) : Type 0 where
  pub consists_are : consists ≡ consist_rows bs
  pub vehicles_are : vehicles ≡ vehicle_rows bs
  pub entries_long : length (entries_of bs) ≡ 21 * count_of bs
  pub table_long : length (table_of bs) ≡ 17 * total_of bs
  pub total_is : length vehicles ≡ total_of bs
  pub count_fits : length consists ≤ 200
  pub total_fits : length vehicles ≤ 2000
