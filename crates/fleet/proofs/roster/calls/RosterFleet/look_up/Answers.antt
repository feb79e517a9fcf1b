use Rattle.std.proofs.Common.{ℕ, Option, Some, sym, ap, ◌∙◌}
use Rattle.fleet.specs.declared.questions.Found.{Found}
use Rattle.fleet.specs.Fleets.{found_in}
use Rattle.fleet.specs.Seats.{consist_in, meaning_in}
use Rattle.fleet.specs.Sound.{seat_is, seat_none}
use Rattle.fleet.proofs.roster.calls.RosterFleet.look_up.Goals as goal

pub returns-in_err-seat : goal.returns-in_err-seat
returns-in_err-seat c =
    let id = c.args.identity.now in
    c.from_residual.ensures ∙ sym (ap found_in (seat_none id 0 c.as_slice-seats.result.now (sym c.in_err-seat.ensures.found)))
    ∙ ap (λ ss. found_in (meaning_in ss id)) c.as_slice-seats.ensures.value

pub returns : goal.returns
returns c =
    let id = c.args.identity.now in
    let ss = c.as_slice-seats.result.now in
    let seat = c.index-seats-branch.result in
    ap (λ (n : ℕ). let found : Option Found = Some (record { counter = seat.counter; count = n }) in found) c.len.ensures.value
    ∙ ap (λ s. found_in (Some (consist_in s))) c.index-seats-branch.is
    ∙ sym (ap found_in (seat_is id ss c.in_ok-seat.field-0 seat c.in_ok-seat.ensures.found))
    ∙ ap (λ ss. found_in (meaning_in ss id)) c.as_slice-seats.ensures.value
