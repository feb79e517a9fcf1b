use Rattle.std.proofs.Common.{length, sym, ◌∙◌, arith}
use Rattle.std.proofs.lemmas.Bool.Decides.{nat_tests}
use Rattle.std.proofs.lemmas.List.{length-map}
use Rattle.directory.specs.Operation.{names}
use Rattle.directory.proofs.InOrder.{walk_on, walk_end, some_order}
use Rattle.directory.proofs.orders.in_order.Goals as goal

pub loop-name-preserved : goal.loop-name-preserved
loop-name-preserved c =
    let held = names c.args.head.now in
    let ns = c.args.confirmed.now in (
      c.in-Some.ensures.within,
      c.loop-name.invariant.1 ∙ walk_on held ns c.loop-name.name-index c.loop-name.at c.in-Some.next _ c.loop-name-test.true c.in-Some.ensures.value,
    )

pub returns : goal.returns
returns c =
    let held = names c.args.head.now in
    let ns = c.args.confirmed.now in
    let long = length-map c.args.head.now (λ d. d.name) in
    let within = c.loop-name.invariant.0 in
    sym (some_order ns held (grind (arith, nat_tests)) ∙ c.loop-name.invariant.1
    ∙ walk_end held ns c.loop-name.name-index c.loop-name.at (length c.args.head.now) c.loop-name-test.false (omega (arith, long, within)) (sym long))
