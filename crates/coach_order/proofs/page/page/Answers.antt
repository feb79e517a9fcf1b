use Rattle.std.proofs.Common.{◌≤◌, length, vec_items, ap, ◌∙◌, arith}
use Rattle.std.proofs.lemmas.Result.{IfOk-weaker}
use Rattle.coach_order.specs.Pages.{order_text}
use Rattle.coach_order.proofs.Printed.{order_page, refusal_page}
use Rattle.coach_order.proofs.page.page.Goals as goal

pub returns-in-Ok : goal.returns-in-Ok
returns-in-Ok c =
    let le : length c.args.list.now ≤ 65535 = omega arith in
    record {
      answer = IfOk-weaker c.order_page.result _ _ (λ p h. (order_page le c.in-Ok.ensures.order c.in-Ok.ensures.decided (h ∙ ap order_text c.as_slice.ensures.value)).0) c.order_page.ensures;
      decided = IfOk-weaker c.order_page.result _ _ (λ p h. (order_page le c.in-Ok.ensures.order c.in-Ok.ensures.decided (h ∙ ap order_text c.as_slice.ensures.value)).1) c.order_page.ensures;
    }

pub returns-in_ok-text-in-Err : goal.returns-in_ok-text-in-Err
returns-in_ok-text-in-Err c =
    let le : length c.args.list.now ≤ 65535 = omega arith in
    let p = refusal_page le c.in-Err.ensures.refused c.in-Err.ensures.decided (ap vec_items c.into_bytes.ensures.value ∙ c.in_ok-text-in-Err.ensures.ok) in
    record { answer = p.0; decided = p.1 }
