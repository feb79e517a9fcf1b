use Rattle.std.proofs.Common.{sym, refl, ap, ◌∙◌}
use Rattle.std.proofs.lemmas.Result.{err_from_is_err_and}
use Rattle.coach_order.specs.Orders.{uncoupled}
use Rattle.coach_order.proofs.Ready.{book_lent, list_of, order_if, refused_if, decided_first, decided_then}
use Rattle.coach_order.proofs.order.order_from_head.Goals as goal

pub returns-in_err-length-clause-decided : goal.returns-in_err-length-clause-decided
returns-in_err-length-clause-decided c =
    let p = err_from_is_err_and c.from_residual.result c.from_residual.ensures.1 in
    rw (p.1, p.2) (decided_first c.args.list.now _ _ refl c.in_err-length.ensures.decided)

pub returns-in_err-open : goal.returns-in_err-open
returns-in_err-open c =
    let i = c.in_ok-length.ensures.answer in
    absurd (c.in_err-open.ensures.exactly i.items (book_lent i))

pub returns : goal.returns
returns c =
    let i = c.in_ok-length.ensures.answer in
    let e = c.in_ok-open.ensures.exactly.only i.items (book_lent i) in
    record {
      order = order_if (λ vehicles. vehicles.items) c.args.list.now _ _ (list_of i) e c.compose_all.result c.compose_all.ensures.answer c.compose_all.ensures.order;
      refused = refused_if (λ vehicles. vehicles.items) c.args.list.now _ _ (list_of i) e c.compose_all.result c.compose_all.ensures.answer;
      decided = decided_then c.args.list.now _ _ i.items c.compose_all.result refl c.in_ok-length.ensures.decided (list_of i) (c.compose_all.ensures.answer ∙ ap uncoupled (sym e));
    }
