use Rattle.std.proofs.Common.{◌≡◌, suc, Some, sym, ap, ◌∙◌, arith}
use Rattle.std.proofs.lemmas.Bool.Decides.{nat_tests}
use Rattle.std.specs.List.{slice_get}
use Rattle.fleet.specs.Fleets.{vehicle_in}
use Rattle.fleet.specs.Seats.{consist_in, meaning_in}
use Rattle.fleet.specs.Sound.{seat_is, seat_none}
use Rattle.fleet.proofs.Gets.{got}
use Rattle.fleet.specs.Means.{vehicle_none}
use Rattle.fleet.proofs.roster.calls.RosterFleet.vehicle.Goals as goal

pub returns-in_err-seat : goal.returns-in_err-seat
returns-in_err-seat c =
    let id = c.args.identity.now in
    c.from_residual.ensures ∙ vehicle_none (meaning_in c.as_slice-seats.result.now id) c.args.k (seat_none id 0 c.as_slice-seats.result.now (sym c.in_err-seat.ensures.found))
    ∙ ap (λ ss. vehicle_in (meaning_in ss id) c.args.k) c.as_slice-seats.ensures.value

pub returns : goal.returns
returns c =
    let id = c.args.identity.now in
    let ss = c.as_slice-seats.result.now in
    let k : suc c.in_ok-at.at ≡ c.args.k = grind (arith, nat_tests) in
    c.copied.ensures ∙ got c.as_slice.result.now c.in_ok-at.at c.get.result c.get.ensures.lookup.3
    ∙ ap (λ vs. slice_get vs c.in_ok-at.at) c.as_slice.ensures.value
    ∙ ap (λ s. vehicle_in (Some (consist_in s)) (suc c.in_ok-at.at)) c.index-seats-branch.is
    ∙ sym (ap (λ o. vehicle_in o (suc c.in_ok-at.at)) (seat_is id ss c.in_ok-seat.field-0 c.index-seats-branch.result c.in_ok-seat.ensures.found))
    ∙ ap (vehicle_in (meaning_in ss id)) k
    ∙ ap (λ ss. vehicle_in (meaning_in ss id) c.args.k) c.as_slice-seats.ensures.value
