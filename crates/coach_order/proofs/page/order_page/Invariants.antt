use Rattle.std.proofs.Common.{◌≡◌, ◌∷◌, ◌++◌, length, take, vec_items, codes, decimal}
use Rattle.directory.specs.Sections.{rows}
use Rattle.coach_order.specs.Pages.{vehicle_line}
use Rattle.coach_order.proofs.page.order_page.Given as goal

abbrev pub invariant-loop-i : goal.invariant-loop-i
invariant-loop-i l = vec_items l.page ≡ codes "vehicles " ++ (decimal (length l.vehicles) ++ 10 ∷ rows vehicle_line 1 (take l.i l.vehicles))
