use Rattle.std.proofs.Common.{◌≡◌, map, take, drop}
use Rattle.train.specs.Refusals.{each, each_behind, alone}
use Rattle.train.specs.declared.refusal.Reason.TheVariants.{Repeated}
use Rattle.fleet_list.specs.Consists.{items_in}
use Rattle.fleet_list.specs.Imports.{names_apart, vehicles_of}
use Rattle.fleet_list.proofs.checks.names_apart.Given as goal

abbrev pub invariant-loop-i : goal.invariant-loop-i
invariant-loop-i l =
    (goal.iterator-loop-i).can_next l.i-iterator
    × (goal.iterator-loop-i).is_finite l.i-iterator
    × (drop l.i-iterator.count (items_in l.fn.consists) ≡ items_in l.i-iterator.iter)
    × (each (alone names_apart) Repeated (map vehicles_of (items_in l.fn.consists))
    ≡ each_behind (alone names_apart) Repeated (take l.i-iterator.count (map vehicles_of (items_in l.fn.consists))) (drop l.i-iterator.count (map vehicles_of (items_in l.fn.consists))))
