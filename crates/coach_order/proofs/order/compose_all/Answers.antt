use Rattle.std.proofs.Common.{Some, ap, ◌∙◌}
use Rattle.std.proofs.lemmas.Result.{err_from_is_err_and}
use Rattle.train.specs.Refusals.{refusal_of}
use Rattle.fleet.specs.Held.{held}
use Rattle.coach_order.proofs.Ready.{then_composed, then_ready}
use Rattle.coach_order.proofs.order.compose_all.Goals as goal

pub returns-in_err-length-clause-answer : goal.returns-in_err-length-clause-answer
returns-in_err-length-clause-answer c =
    let p = err_from_is_err_and c.from_residual-in_err-length.result c.from_residual-in_err-length.ensures.1 in
    ap refusal_of p.1 ∙ ap Some p.2 ∙ then_composed (held c.args.book.now) c.in_ok-bench.ensures.answer c.in_ok-bench.ensures.facts c.in_err-length.ensures.answer

pub operational_vehicles-requires : goal.operational_vehicles-requires
operational_vehicles-requires c =
    let w = then_ready (held c.args.book.now) c.in_ok-bench.ensures.answer c.in_ok-bench.ensures.facts c.requires c.in_ok-length.ensures.answer c.in_ok-length.ensures.wrote in
    record { written = w.sections; room = w.count }

pub returns : goal.returns
returns c =
    let w = then_ready (held c.args.book.now) c.in_ok-bench.ensures.answer c.in_ok-bench.ensures.facts c.requires c.in_ok-length.ensures.answer c.in_ok-length.ensures.wrote in
    record {
      answer = then_composed (held c.args.book.now) c.in_ok-bench.ensures.answer c.in_ok-bench.ensures.facts c.in_ok-length.ensures.answer;
      order = c.operational_vehicles.ensures ∙ w.read;
    }
