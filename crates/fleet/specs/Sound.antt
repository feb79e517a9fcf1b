-- A consist that passes its checks is lawful, and so is what the seats mean.
use Rattle.std.specs.Prelude.{◌≡◌, ℕ, zero, suc, ◌+◌, ◌≤◌, Bool, true, false, cond, not, ◌&&◌, List, [], ◌∷◌, ◌++◌, filter, length, drop, is_some, Some, None, Option, ◌==◌, nat_le, slice_index_or, slice_set, refl}
use Rattle.std.proofs.Common.{sym, ap, ◌∙◌, arith}
use borrow.Rule.Slice.PartMut.{post_of}
use Rattle.std.specs.List.{AllByRecursion}
use Rattle.std.specs.Str.{bytes_eq}
use Rattle.std.proofs.lemmas.List.{length-append, length-drop}
use Rattle.std.proofs.lemmas.Bool.{and_parts, and_from, not-true, leb-true, le-leb}
use Rattle.train.specs.declared.entries.Vehicle.{Vehicle}
use Rattle.train.specs.declared.identity.Identity.{Identity}
use Rattle.train.specs.declared.refusal.Part.TheVariants.{Roster}
use Rattle.train.specs.declared.refusal.Reason.TheVariants.{IdentityOrder, ZeroCounter, EntryCount, NameForm, UnknownFacing, Repeated}
use Rattle.train.specs.Facings.{known}
use Rattle.train.specs.Names.{well_formed}
use Rattle.train.specs.Octets.{zeros}
use Rattle.train.specs.Refusals.{refusal, must, each, alone, fresh, by}
use Rattle.train.proofs.Names.{name_rule}
use Rattle.fleet.specs.declared.roster.Roster.{Roster as Announced}
use Rattle.fleet.specs.declared.roster.Seat.{Seat}
use Rattle.fleet.specs.Fleets.{Consist, IsVehicle, IsConsist, Lawful}
use Rattle.fleet.specs.Rosters.{consist_checks}
use Rattle.fleet.specs.Seats.{is_here, consist_in, meaning_in, sound_seat, sound_seats}
use Rattle.fleet.specs.Seeks.{find}
use Rattle.fleet.specs.Heads.{never, first_met}
use Rattle.fleet.specs.Meant.{meant}
use Rattle.fleet.specs.Kept.{alone_all, fresh_pairs}
use Rattle.fleet.specs.Means.{find_ge, none_go}
use Rattle.fleet.specs.Readings.{counter_some, size_fits}
use Rattle.fleet.specs.Changes.{head_zero, head_suc}
use Rattle.fleet.specs.Whole.{not_some}

each_lawful : (vs : List Vehicle) → AllByRecursion (λ v. well_formed v.name.bytes ≡ true) vs → AllByRecursion (λ v. known v.facing ≡ true) vs → AllByRecursion IsVehicle vs
each_lawful [] h k = tt
each_lawful (v ∷ vs) h k = (record { named = (name_rule v.name.bytes).0 h.0; faced = k.0 }, each_lawful vs h.1 k.1)

-- a consist that none of its checks refuses
pub checks_lawful : (id : Identity) (n : ℕ) (vs : List Vehicle) → n ≤ 4294967295 → refusal Roster (consist_checks id n vs) ≡ None → IsConsist (record { counter = n; vehicles = vs })
checks_lawful id n vs fits e =
    let a = first_met Roster (must (not (bytes_eq id.bytes zeros)) IdentityOrder) _ e in
    let b = first_met Roster (must (not (n == 0)) ZeroCounter) _ a.1 in
    let c = first_met Roster (must (nat_le 1 (length vs) && nat_le (length vs) 32) EntryCount) _ b.1 in
    let d = first_met Roster (each (alone (λ v. well_formed v.name.bytes)) NameForm vs) _ c.1 in
    let f = first_met Roster (each (alone (λ v. known v.facing)) UnknownFacing vs) _ d.1 in
    let g = first_met Roster (each (fresh (by bytes_eq (λ v. v.name.bytes))) Repeated vs) _ f.1 in
    let s = size_fits (length vs) c.0 in
    record {
      counted = counter_some n b.0;
      fits = fits;
      some = s.0;
      few = s.1;
      each = each_lawful vs (alone_all (λ v. well_formed v.name.bytes) [] vs d.0) (alone_all (λ v. known v.facing) [] vs f.0);
      apart = fresh_pairs (λ v. v.name.bytes) vs g.0;
    }

pub sound_set : (ss : List Seat) (k : ℕ) (q : Seat) → sound_seats ss ≡ true → sound_seat q ≡ true → sound_seats (slice_set ss k q) ≡ true
sound_set [] k q h e = refl
sound_set (s ∷ ss) zero q h e = and_from (sound_seat q) (sound_seats ss) e (and_parts (sound_seat s) (sound_seats ss) h).1
sound_set (s ∷ ss) (suc k) q h e =
    let t = and_parts (sound_seat s) (sound_seats ss) h in
    and_from (sound_seat s) (sound_seats (slice_set ss k q)) t.0 (sound_set ss k q t.1 e)

pub sound_push : (ss : List Seat) (q : Seat) → sound_seats ss ≡ true → sound_seat q ≡ true → sound_seats (ss ++ q ∷ []) ≡ true
sound_push [] q h e = and_from (sound_seat q) true e refl
sound_push (s ∷ ss) q h e =
    let t = and_parts (sound_seat s) (sound_seats ss) h in
    and_from (sound_seat s) (sound_seats (ss ++ q ∷ [])) t.0 (sound_push ss q t.1 e)

pub sound_filter : (test : Seat → Bool) (ss : List Seat) → sound_seats ss ≡ true → sound_seats (filter test ss) ≡ true
sound_filter test [] h = refl
sound_filter test (s ∷ ss) h =
    let t = and_parts (sound_seat s) (sound_seats ss) h in
    by (test s) t.0 (sound_filter test ss t.1)
  where
    by : (b : Bool) → sound_seat s ≡ true → sound_seats (filter test ss) ≡ true → sound_seats (cond b (s ∷ filter test ss) (filter test ss)) ≡ true
    by true e k = and_from (sound_seat s) (sound_seats (filter test ss)) e k
    by false e k = k

-- what a seat holds
seat_parts : (s : Seat) → sound_seat s ≡ true → (s.counter ≤ 4294967295) × (refusal Roster (consist_checks s.identity s.counter s.vehicles.items) ≡ None)
seat_parts s h =
    let t = and_parts (nat_le s.counter 4294967295) (not (is_some (refusal Roster (consist_checks s.identity s.counter s.vehicles.items)))) h in
    (leb-true s.counter 4294967295 t.0, not_some _ (not-true _ t.1))

meant_go : (id : Identity) (s : Seat) (o : Option Consist) (b : Bool) → sound_seat s ≡ true → Lawful o → Lawful (cond b (Some (consist_in s)) o)
meant_go id s o false h k = k
meant_go id s o true h k = let u = seat_parts s h in checks_lawful s.identity s.counter s.vehicles.items u.0 u.1

pub sound_means : (ss : List Seat) (id : Identity) → sound_seats ss ≡ true → Lawful (meaning_in ss id)
sound_means [] id h = tt
sound_means (s ∷ ss) id h =
    let t = and_parts (sound_seat s) (sound_seats ss) h in
    meant_go id s (meaning_in ss id) (is_here id s) t.0 (sound_means ss id t.1)

-- what a roster means of a consist is what a consist may be
pub roster_lawful : (r : Announced) (id : Identity) → Lawful (meant r id)
roster_lawful r id = sound_means r.seats.items id r.sound

-- a seat for a consist that passes its checks
pub new_sound : (q : Seat) (vs : List Vehicle) → q.vehicles.items ≡ vs → q.counter ≤ 4294967295 → None ≡ refusal Roster (consist_checks q.identity q.counter vs) → sound_seat q ≡ true
new_sound q vs e n v =
    and_from (nat_le q.counter 4294967295) _ (le-leb q.counter 4294967295 n)
    (ap (λ (x : List Vehicle). not (is_some (refusal Roster (consist_checks q.identity q.counter x)))) e ∙ ap (λ o. not (is_some o)) (sym v))

-- the seat that a search found
at_seat : (id : Identity) (d : Seat) (n : ℕ) (ss : List Seat) (i : ℕ) → find (is_here id) n ss ≡ Some (n + i) → (meaning_in ss id ≡ Some (consist_in (slice_index_or ss i d))) × (is_here id (slice_index_or ss i d) ≡ true)
at_seat id d n [] i e = never (n + i) (sym e)
at_seat id d n (s ∷ ss) zero e =
    let h = head_zero (is_here id s) n (find (is_here id) (n + 1) ss) e (λ q. find_ge (is_here id) (n + 1) ss (n + 0) q) in
    (rw h refl, h)
at_seat id d n (s ∷ ss) (suc i) e =
    let t = head_suc (is_here id s) n i (find (is_here id) (n + 1) ss) e in
    let h = t.0 in
    let r = at_seat id d (n + 1) ss i t.1 in
    (rw h r.0, r.1)

-- the seat that holds a consist, where a search found it
pub seat_is : (id : Identity) (ss : List Seat) (i : ℕ) (d : Seat) → Some i ≡ find (is_here id) 0 ss → meaning_in ss id ≡ Some (consist_in (slice_index_or ss i d))
seat_is id ss i d e = let z : i ≡ 0 + i = omega arith in (at_seat id d 0 ss i (sym e ∙ ap (λ (x : ℕ). Some x) z)).0

pub seat_none : (id : Identity) (n : ℕ) (ss : List Seat) → find (is_here id) n ss ≡ None → meaning_in ss id ≡ None
seat_none id n [] e = refl
seat_none id n (s ∷ ss) e = none_go (is_here id s) n (find (is_here id) (n + 1) ss) _ _ e (λ q. seat_none id (n + 1) ss q)

-- the array after a copy to its front is as long as it was
pub copied_whole : (part from xs : List Vehicle) (k : ℕ) → part ≡ from → k ≡ length from → length from ≤ 32 → length xs ≡ 32 → length (part ++ post_of 0 k xs) ≡ 32
copied_whole part from xs k e q h l =
    let a = length-append part (drop k xs) in
    let b = length-drop k xs in
    let c = ap length e in
    omega arith
