-- Entries as bytes: a label of sixteen bytes, and behind it which way the entry faces.
use Rattle.std.specs.Prelude.{ℕ, cond, List, take, ◌==◌, slice_index}
use Rattle.train.specs.declared.entries.Coupled.{Coupled}
use Rattle.train.specs.declared.entries.Vehicle.{Vehicle}
use Rattle.train.specs.declared.facing.Facing.{Facing}
use Rattle.train.specs.declared.facing.Facing.TheVariants.{NotKnown, Direct, Inverse}

abbrev pub label_in : List ℕ → List ℕ
label_in row = take 16 row

-- 1 is direct and 2 inverse; any other byte says nothing
abbrev pub facing_of : ℕ → Facing
facing_of b = cond (b == 1) Direct (cond (b == 2) Inverse NotKnown)

abbrev pub facing_in : List ℕ → Facing
facing_in row = facing_of (slice_index row 16)

abbrev pub vehicle_in : List ℕ → Vehicle
vehicle_in row = record { name = record { bytes = label_in row }; facing = facing_in row }

abbrev pub coupled_in : List ℕ → Coupled
coupled_in row = record { identity = record { bytes = label_in row }; facing = facing_in row }
