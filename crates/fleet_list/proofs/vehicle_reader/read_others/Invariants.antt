use Rattle.std.proofs.Common.{◌-◌, ◌≤◌, take}
use Rattle.fleet_list.specs.Parts.{GoodCar, spaced, cars}
use Rattle.fleet_list.proofs.Runs.{Along}
use Rattle.fleet_list.proofs.vehicle_reader.read_others.Given as goal

abbrev pub invariant-loop-count : goal.invariant-loop-count
invariant-loop-count l = record { few : l.count ≤ 31; along : Along GoodCar spaced l.initial.cursor l.cursor (cars (take l.count l.room)) }

abbrev pub decreases-loop-count : goal.decreases-loop-count
decreases-loop-count l = 31 - l.count
