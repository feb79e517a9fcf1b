use Rattle.std.proofs.Common.{rules, ◌≡◌, true, List, filter, is_some, sym, ap, ◌∙◌, subst, arith}
use Rattle.arrayvec.proofs.ArrayVecLemmas.{filter-from_retain}
use Rattle.fleet.specs.declared.roster.Seat.{Seat}
use Rattle.fleet.specs.Seats.{elsewhere, meaning_in, sound_seats, apart_seats}
use Rattle.fleet.specs.Changes.{absent, leave_means}
use Rattle.fleet.specs.Sound.{sound_filter}
use Rattle.fleet.proofs.Crowds.{apart_filter}
use Rattle.fleet.proofs.roster.Roster.forget.Goals as goal

pub returns-in_err-require-2-clause-answer : goal.returns-in_err-require-2-clause-answer
returns-in_err-require-2-clause-answer c =
    let id = c.args.identity.now in
    let e : c.is_some.result ≡ is_some (meaning_in c.args.self.now.seats.items id) =
    c.is_some.ensures ∙ ap is_some c.place_of-place.ensures.found ∙ absent id 0 _ ∙ ap (λ ss. is_some (meaning_in ss id)) c.as_slice.ensures.value in
    search rules

pub returns-clause-answer : goal.returns-clause-answer
returns-clause-answer c =
    let id = c.args.identity.now in
    let e : c.is_some.result ≡ is_some (meaning_in c.args.self.now.seats.items id) =
    c.is_some.ensures ∙ ap is_some c.place_of-place.ensures.found ∙ absent id 0 _ ∙ ap (λ ss. is_some (meaning_in ss id)) c.as_slice.ensures.value in
    search rules

pub invariant_of-self : goal.invariant_of-self
invariant_of-self c =
    let id = c.args.identity.now in
    let r = c.args.self.now in
    let left : c.retain.new.self.items ≡ filter (elsewhere id) r.seats.items =
    filter-from_retain _ (elsewhere id) _ (λ s b f' y k. (search rules, search rules, search rules)) r.seats.items c.retain.new.self.items c.retain.ensures.filtered in
    let e = sym left in
    record {
      few = let b = c.retain.ensures.bound in let f = r.few in omega arith;
      sound = subst (λ (ss : List Seat). sound_seats ss ≡ true) e (sound_filter (elsewhere id) r.seats.items r.sound);
      apart = subst (λ (ss : List Seat). apart_seats ss ≡ true) e (apart_filter id r.seats.items r.apart);
    }

pub returns-clause-after : goal.returns-clause-after
returns-clause-after c = λ other.
    let id = c.args.identity.now in
    let r = c.args.self.now in
    let left : c.retain.new.self.items ≡ filter (elsewhere id) r.seats.items =
    filter-from_retain _ (elsewhere id) _ (λ s b f' y k. (search rules, search rules, search rules)) r.seats.items c.retain.new.self.items c.retain.ensures.filtered in
    ap (λ (ss : List Seat). meaning_in ss other) left ∙ leave_means id other r.seats.items
