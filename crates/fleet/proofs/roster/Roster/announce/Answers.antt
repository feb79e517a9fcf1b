use Rattle.std.proofs.Common.{rules, ◌≡◌, ◌+◌, ◌≤◌, true, false, List, length, set, Some, None, sym, refl, ap, ◌∙◌, subst, arith, length-set}
use Rattle.std.proofs.lemmas.Result.{err_from_is_err_and}
use Rattle.std.specs.List.{refill}
use Rattle.arrayvec.proofs.ArrayVecLemmas.{items-with_items}
use Rattle.train.specs.Refusals.{refusal_of}
use Rattle.train.specs.declared.entries.Vehicle.{Vehicle}
use Rattle.fleet.specs.declared.roster.Seat.{Seat}
use Rattle.fleet.specs.Rosters.{announced}
use Rattle.fleet.specs.Seats.{is_here, meaning_in, sound_seats, apart_seats}
use Rattle.fleet.specs.Seeks.{find}
use Rattle.fleet.specs.Changes.{put_means, push_means}
use Rattle.fleet.specs.Sound.{new_sound, sound_set, sound_push}
use Rattle.fleet.proofs.Crowds.{apart_set, apart_push}
use Rattle.fleet.proofs.Answered.{refused_before, seats_decide, seated, unseated}
use Rattle.fleet.proofs.roster.Roster.announce.Goals as goal

pub returns-in_err-checked-clause-answer : goal.returns-in_err-checked-clause-answer
returns-in_err-checked-clause-answer c =
    let r = c.args.self.now in
    let p = err_from_is_err_and c.from_residual.result c.from_residual.ensures.1 in
    refused_before r.seats.items c.args.identity c.args.counter c.args.vehicles.now r.few r.apart _ _ (ap refusal_of p.1 ∙ ap Some p.2) c.in_err-checked.ensures.answer

pub invariant_of-self : goal.invariant_of-self
invariant_of-self c =
    let r = c.args.self.now in
    let ss = r.seats.items in
    let q : Seat = record { identity = c.args.identity; counter = c.args.counter; vehicles = c.in_ok-checked.field-0 } in
    let found : Some c.in-Some.at ≡ find (is_here c.args.identity) 0 ss = c.in-Some.ensures.found ∙ ap (find (is_here c.args.identity) 0) c.as_slice.ensures.value in
    let same : refill (length ss) ss (set c.deref_mut.result.now c.in-Some.at q) ≡ set ss c.in-Some.at q =
    items-with_items r.seats (set c.deref_mut.result.now c.in-Some.at q) (length-set _ _ _ ∙ ap length c.deref_mut.ensures.value) ∙ ap (λ (xs : List Seat). set xs c.in-Some.at q) c.deref_mut.ensures.value in
    let e = sym same in
    record {
      few = subst (λ (xs : List Seat). length xs ≤ 63) e (let z = length-set ss c.in-Some.at q in let f = r.few in omega arith);
      sound = subst (λ (xs : List Seat). sound_seats xs ≡ true) e (sound_set ss c.in-Some.at q r.sound (new_sound q c.args.vehicles.now c.in_ok-checked.ensures.list (omega arith) c.in_ok-checked.ensures.answer));
      apart = subst (λ (xs : List Seat). apart_seats xs ≡ true) e (apart_set c.args.identity q refl ss c.in-Some.at found r.apart);
    }

pub returns-in_err-require-in-None-clause-answer : goal.returns-in_err-require-in-None-clause-answer
returns-in_err-require-in-None-clause-answer c =
    let r = c.args.self.now in
    let ss = r.seats.items in
    let found : None ≡ find (is_here c.args.identity) 0 ss = c.in-None.ensures.found ∙ ap (find (is_here c.args.identity) 0) c.as_slice.ensures.value in
    seats_decide ss c.args.identity c.args.counter c.args.vehicles.now r.few r.apart c.is_full.result _ (unseated ss c.args.identity c.args.counter c.args.vehicles.now r.few r.apart _ found c.is_full.ensures.value) c.in_ok-checked.ensures.answer (search rules)

pub invariant_of-self-in-None : goal.invariant_of-self-in-None
invariant_of-self-in-None c =
    let r = c.args.self.now in
    let ss = r.seats.items in
    let q : Seat = record { identity = c.args.identity; counter = c.args.counter; vehicles = c.in_ok-checked.field-0 } in
    let found : None ≡ find (is_here c.args.identity) 0 ss = c.in-None.ensures.found ∙ ap (find (is_here c.args.identity) 0) c.as_slice.ensures.value in
    let e = sym c.push.ensures.items in
    record {
      few = let n : length c.push.new.self.items ≤ 63 = search rules in n;
      sound = subst (λ (xs : List Seat). sound_seats xs ≡ true) e (sound_push ss q r.sound (new_sound q c.args.vehicles.now c.in_ok-checked.ensures.list (omega arith) c.in_ok-checked.ensures.answer));
      apart = subst (λ (xs : List Seat). apart_seats xs ≡ true) e (apart_push c.args.identity q refl ss found r.apart);
    }

pub returns-in-Some-clause-answer : goal.returns-in-Some-clause-answer
returns-in-Some-clause-answer c =
    let r = c.args.self.now in
    let ss = r.seats.items in
    let found : Some c.in-Some.at ≡ find (is_here c.args.identity) 0 ss = c.in-Some.ensures.found ∙ ap (find (is_here c.args.identity) 0) c.as_slice.ensures.value in
    seats_decide ss c.args.identity c.args.counter c.args.vehicles.now r.few r.apart false None (seated ss c.args.identity c.args.counter c.args.vehicles.now r.few r.apart c.in-Some.at found) c.in_ok-checked.ensures.answer refl

pub returns-in-Some-clause-after : goal.returns-in-Some-clause-after
returns-in-Some-clause-after c = λ other.
    let r = c.args.self.now in
    let ss = r.seats.items in
    let id = c.args.identity in
    let q : Seat = record { identity = id; counter = c.args.counter; vehicles = c.in_ok-checked.field-0 } in
    let found : Some c.in-Some.at ≡ find (is_here id) 0 ss = c.in-Some.ensures.found ∙ ap (find (is_here id) 0) c.as_slice.ensures.value in
    let same : refill (length ss) ss (set c.deref_mut.result.now c.in-Some.at q) ≡ set ss c.in-Some.at q =
    items-with_items r.seats (set c.deref_mut.result.now c.in-Some.at q) (length-set _ _ _ ∙ ap length c.deref_mut.ensures.value) ∙ ap (λ (xs : List Seat). set xs c.in-Some.at q) c.deref_mut.ensures.value in
    let zero_more : c.in-Some.at ≡ 0 + c.in-Some.at = omega arith in
    ap (λ (xs : List Seat). meaning_in xs other) same
    ∙ put_means id other q refl 0 ss c.in-Some.at (sym found ∙ ap Some zero_more)
    ∙ ap (λ (vs : List Vehicle). announced id (record { counter = c.args.counter; vehicles = vs }) (meaning_in ss) other) c.in_ok-checked.ensures.list

pub returns-in_ok-require-in-None-clause-answer : goal.returns-in_ok-require-in-None-clause-answer
returns-in_ok-require-in-None-clause-answer c =
    let r = c.args.self.now in
    let ss = r.seats.items in
    let found : None ≡ find (is_here c.args.identity) 0 ss = c.in-None.ensures.found ∙ ap (find (is_here c.args.identity) 0) c.as_slice.ensures.value in
    seats_decide ss c.args.identity c.args.counter c.args.vehicles.now r.few r.apart c.is_full.result _ (unseated ss c.args.identity c.args.counter c.args.vehicles.now r.few r.apart _ found c.is_full.ensures.value) c.in_ok-checked.ensures.answer (search rules)

pub returns-in_ok-require-in-None-clause-after : goal.returns-in_ok-require-in-None-clause-after
returns-in_ok-require-in-None-clause-after c = λ other.
    let ss = c.args.self.now.seats.items in
    let id = c.args.identity in
    let q : Seat = record { identity = id; counter = c.args.counter; vehicles = c.in_ok-checked.field-0 } in
    let found : None ≡ find (is_here id) 0 ss = c.in-None.ensures.found ∙ ap (find (is_here id) 0) c.as_slice.ensures.value in
    ap (λ (xs : List Seat). meaning_in xs other) c.push.ensures.items
    ∙ push_means id other q refl 0 ss (sym found)
    ∙ ap (λ (vs : List Vehicle). announced id (record { counter = c.args.counter; vehicles = vs }) (meaning_in ss) other) c.in_ok-checked.ensures.list
