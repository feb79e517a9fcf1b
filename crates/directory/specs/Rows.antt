-- The bytes of each kind of row, with its number in its section.
use Rattle.std.specs.Prelude.{ℕ, List, [], ◌∷◌, ◌++◌}
use Rattle.train.specs.Facings.{code}
use Rattle.directory.specs.declared.rows.TrainRow.{TrainRow}
use Rattle.directory.specs.declared.rows.ConsistRow.{ConsistRow}
use Rattle.directory.specs.declared.rows.VehicleRow.{VehicleRow}
use Rattle.train.specs.declared.entries.Coupled.{Coupled}
use Rattle.train.specs.Identities.{same_identity, same_name}
use Rattle.fleet.specs.Fleets.{Meaning}
use Rattle.directory.specs.declared.cars.Car.{Car}
use Rattle.directory.specs.Sections.{Seat, four, lead_byte, counter_of, place}

abbrev pub train_row : ℕ → TrainRow → List ℕ
train_row n r = r.identity.bytes ++ (four r.counter ++ (n ∷ code r.facing ∷ 0 ∷ 0 ∷ []))

abbrev pub consist_row : ℕ → ConsistRow → List ℕ
consist_row n r = r.identity.bytes ++ (n ∷ code r.facing ∷ r.number ∷ 0 ∷ [])

abbrev pub vehicle_row : ℕ → VehicleRow → List ℕ
vehicle_row n r = r.name.bytes ++ (n ∷ lead_byte r.lead ∷ code r.lead ∷ r.number ∷ code r.facing ∷ r.run ∷ 0 ∷ 0 ∷ [])

-- the row of a formation's entry, of a run's first car, and of a vehicle in its run
abbrev pub train_row_of : Meaning → Coupled → TrainRow
train_row_of m e = record { identity = e.identity; counter = counter_of (m e.identity); facing = e.facing }

abbrev pub consist_row_of : List Coupled → Car → ConsistRow
consist_row_of es c = record { identity = c.consist; facing = c.stance; number = place (λ e. same_identity c.consist e.identity) 1 es }

abbrev pub vehicle_row_of : List Car → Seat → VehicleRow
vehicle_row_of cs s = record {
  name = s.car.name;
  lead = s.car.lead;
  number = place (λ d. same_name s.car.name d.name) 1 cs;
  facing = s.car.facing;
  run = s.run;
}
