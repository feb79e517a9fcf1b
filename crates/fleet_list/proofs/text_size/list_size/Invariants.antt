use Rattle.std.proofs.Common.{◌≡◌, ◌+◌, length}
use Rattle.fleet_list.specs.Consists.{items_in}
use Rattle.fleet_list.specs.Lists.{list_text}
use Rattle.fleet_list.proofs.text_size.list_size.Given as goal

abbrev pub invariant-loop-consist : goal.invariant-loop-consist
invariant-loop-consist l =
    (goal.iterator-loop-consist).can_next l.consist-iterator
    × (goal.iterator-loop-consist).is_finite l.consist-iterator
    × (l.size + length (list_text (items_in l.consist-iterator)) ≡ length (list_text (items_in l.fn.consists)))
