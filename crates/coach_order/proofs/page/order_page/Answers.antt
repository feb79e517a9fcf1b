use Rattle.std.proofs.Common.{List, ◌∷◌, ◌++◌, length, take, codes, decimal, refl, ap, ◌∙◌}
use Rattle.std.proofs.lemmas.List.{take_all}
use Rattle.train.specs.declared.entries.Vehicle.{Vehicle}
use Rattle.directory.specs.Sections.{rows}
use Rattle.directory.proofs.Sections.{rows_more}
use Rattle.coach_order.specs.Pages.{vehicle_line}
use Rattle.coach_order.proofs.Printed.{lines_more}
use Rattle.coach_order.proofs.page.order_page.Goals as goal

pub loop-i-preserved : goal.loop-i-preserved
loop-i-preserved c =
    let vs = c.args.vehicles.now in
    lines_more (codes "vehicles ") (decimal (length vs)) (rows vehicle_line 1 (take c.loop-i.i vs)) _ _ _ _ c.loop-i.invariant c.in_ok-put_line.ensures
    (rows_more vehicle_line vs c.loop-i.i _ _ refl c.loop-i-test.true)

pub returns : goal.returns
returns c =
    let vs = c.args.vehicles.now in
    c.loop-i.invariant ∙ ap (λ (ws : List Vehicle). codes "vehicles " ++ (decimal (length vs) ++ 10 ∷ rows vehicle_line 1 ws)) (take_all c.loop-i.i vs c.loop-i-test.false)
