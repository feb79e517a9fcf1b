-- The operational vehicles, read from the bytes of a composition.
use Rattle.std.specs.Prelude.{ℕ, List, map, take, drop, slice_index}
use Rattle.std.specs.Option.{unwrap_or}
use Rattle.train.specs.declared.entries.Vehicle.{Vehicle}
use Rattle.train.specs.declared.facing.Facing.TheVariants.{NotKnown}
use Rattle.train.specs.Facings.{coded}
use Rattle.fleet.specs.Rows.{rows}
use Rattle.directory.specs.Part.{vehicles}

-- the name and the facing of a row
abbrev pub row_vehicle : List ℕ → Vehicle
row_vehicle row = record { name = record { bytes = take 16 row }; facing = unwrap_or (coded (slice_index row 20)) NotKnown }

-- the vehicles of n rows
abbrev pub row_vehicles : ℕ → List ℕ → List Vehicle
row_vehicles n bs = map row_vehicle (rows 24 n bs)

abbrev pub vehicles_read : List ℕ → List Vehicle
vehicles_read bs = row_vehicles (slice_index (vehicles bs) 0) (drop 1 (vehicles bs))
