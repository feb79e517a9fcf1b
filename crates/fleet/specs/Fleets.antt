-- What a fleet means: for each identity nothing, or one consist.
use Rattle.std.specs.Prelude.{◌≡◌, ℕ, zero, suc, ◌≤◌, true, List, [], ◌∷◌, length, Some, None, Option, ◌≢◌}
use Rattle.std.specs.List.{AllByRecursion, slice_get}
use Rattle.train.specs.declared.entries.Vehicle.{Vehicle}
use Rattle.train.specs.declared.identity.Identity.{Identity}
use Rattle.train.specs.Facings.{known}
use Rattle.train.specs.Names.{IsName}
use Rattle.fleet.specs.declared.questions.Found.{Found}

pub record Consist : Type 0 where
  pub counter : ℕ
  pub vehicles : List Vehicle

abbrev pub Meaning : Type 0
Meaning = Identity → Option Consist

-- a relation of each entry to every later one
abbrev pub Pairs : {A : Type 0} → (A → A → Type 0) → List A → Type 0
Pairs R [] = Unit {0}
Pairs R (x ∷ xs) = AllByRecursion (R x) xs × Pairs R xs

pub record IsVehicle (v : Vehicle) : Type 0 where
  pub named : IsName v.name.bytes
  pub faced : known v.facing ≡ true

-- no name twice
abbrev pub Apart : List Vehicle → Type 0
Apart vs = Pairs (λ v w. v.name.bytes ≢ w.name.bytes) vs

pub record IsConsist (c : Consist) : Type 0 where
  pub counted : 1 ≤ c.counter
  pub fits : c.counter ≤ 4294967295
  pub some : 1 ≤ length c.vehicles
  pub few : length c.vehicles ≤ 32
  pub each : AllByRecursion IsVehicle c.vehicles
  pub apart : Apart c.vehicles

-- what may stand at an identity: nothing, or a consist that keeps the rules
abbrev pub Lawful : Option Consist → Type 0
Lawful None = Unit {0}
Lawful (Some c) = IsConsist c

-- what a look-up answers
abbrev pub found_in : Option Consist → Option Found
found_in None = None
found_in (Some c) = Some (record { counter = c.counter; count = length c.vehicles })

abbrev pub vehicles_of : Option Consist → List Vehicle
vehicles_of None = []
vehicles_of (Some c) = c.vehicles

-- what the vehicle question answers: the k-th, counted from 1
abbrev pub vehicle_in : Option Consist → ℕ → Option Vehicle
vehicle_in o zero = None
vehicle_in o (suc k) = slice_get (vehicles_of o) k

abbrev pub last_of : {A : Type 0} → List A → Option A
last_of [] = None
last_of (x ∷ []) = Some x
last_of (x ∷ y ∷ ys) = last_of (y ∷ ys)
