-- A fleet list: a line for each consist.
use Rattle.std.specs.Prelude.{◌≡◌, ℕ, ◌<◌, ◌≤◌, List, [], ◌∷◌, ◌++◌, length, decimal}
use Rattle.std.specs.List.{flat_map, AllByRecursion}
use Rattle.fleet.specs.Fleets.{IsVehicle}
use Rattle.fleet.specs.Books.{Item}
use Rattle.fleet_list.specs.Texts.{byte_text, vehicle_text}

-- the identity in hex, a space, the counter, the vehicles, the end of the line
abbrev pub line_text : Item → List ℕ
line_text i = flat_map byte_text i.identity.bytes ++ 32 ∷ (decimal i.consist.counter ++ (flat_map vehicle_text i.consist.vehicles ++ 10 ∷ []))

-- what a line can say
pub record IsLine (i : Item) : Type 0 where
  pub whole : length i.identity.bytes ≡ 16
  pub bytes : AllByRecursion (λ b. b < 256) i.identity.bytes
  pub counted : 1 ≤ i.consist.counter
  pub fits : i.consist.counter ≤ 4294967295
  pub some : 1 ≤ length i.consist.vehicles
  pub few : length i.consist.vehicles ≤ 32
  pub each : AllByRecursion IsVehicle i.consist.vehicles

abbrev pub list_text : List Item → List ℕ
list_text is = flat_map line_text is
