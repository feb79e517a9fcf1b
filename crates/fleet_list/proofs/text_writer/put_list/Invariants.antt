use Rattle.fleet_list.specs.Consists.{items_in}
use Rattle.fleet_list.specs.Lists.{line_text}
use Rattle.fleet_list.proofs.Loops.{Writing}
use Rattle.fleet_list.proofs.text_writer.put_list.Given as goal

abbrev pub invariant-loop-consist : goal.invariant-loop-consist
invariant-loop-consist l =
    (goal.iterator-loop-consist).can_next l.consist-iterator
    × (goal.iterator-loop-consist).is_finite l.consist-iterator
    × Writing line_text (items_in l.fn.consists) (items_in l.consist-iterator) l.at l.initial.out l.out
