use Rattle.std.proofs.Common.{Some, ap, ◌∙◌}
use Rattle.std.proofs.lemmas.Result.{err_from_is_err_and}
use Rattle.train.specs.Refusals.{refusal_of}
use Rattle.coach_order.proofs.Ready.{decided_as}
use Rattle.coach_order.proofs.order.coach_order.Goals as goal

pub returns-in_err-order-clause-decided : goal.returns-in_err-order-clause-decided
returns-in_err-order-clause-decided c =
    let p = err_from_is_err_and c.from_residual.result c.from_residual.ensures.1 in
    decided_as c.from_residual.result (ap refusal_of p.1 ∙ ap Some p.2) c.in_err-order.ensures.decided
