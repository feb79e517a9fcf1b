use Rattle.std.proofs.Common.{refl, take, ap, arith}
use Rattle.fleet_list.proofs.Cursors.{passed_on}
use Rattle.fleet_list.proofs.Four.{in_identity, in_counter, in_first_car, in_others, whole}
use Rattle.fleet_list.proofs.Lent.{front_lent}
use Rattle.fleet_list.proofs.line_reader.read_line.Goals as goal

pub returns-in_err-identity-clause-answer : goal.returns-in_err-identity-clause-answer
returns-in_err-identity-clause-answer c =
    passed_on c.from_residual.ensures.1 (in_identity _ c.in_err-identity.ensures)

pub returns-in_err-counter-clause-answer : goal.returns-in_err-counter-clause-answer
returns-in_err-counter-clause-answer c =
    passed_on c.from_residual-in_err-counter.ensures.1 (in_counter _ c.in_ok-identity.ensures c.in_err-counter.ensures)

pub returns-in_err-room-clause-answer : goal.returns-in_err-room-clause-answer
returns-in_err-room-clause-answer c =
    passed_on c.from_residual-in_err-room.ensures.1 (in_first_car _ c.in_ok-identity.ensures c.in_ok-counter.ensures c.in_err-room.ensures)

pub returns-in_err-others-clause-answer : goal.returns-in_err-others-clause-answer
returns-in_err-others-clause-answer c =
    passed_on c.from_residual-in_err-others.ensures.1 (in_others _ c.in_ok-identity.ensures c.in_ok-counter.ensures c.in_ok-room.ensures c.in_err-others.ensures.answer)

pub returns-clause-answer : goal.returns-clause-answer
returns-clause-answer c =
    whole _ _ (take c.in_ok-others.others c.read_others.new.room) refl
    (ap (λ z. record { identity = c.in_ok-identity.identity; consist = record { counter = c.in_ok-counter.counter; vehicles = z } })
    (front_lent c.args.room.now c.read_others.new.room c.in_ok-room.field-0 _ c.in_ok-others.others (omega (arith, c.requires)) c.in_ok-others.ensures.count)) c.in_ok-identity.ensures c.in_ok-counter.ensures c.in_ok-room.ensures c.in_ok-others.ensures.answer
