-- The answers to an announcement, from what the seats showed.
use Rattle.std.proofs.Common.{◌≡◌, ℕ, ◌≤◌, Bool, true, false, not, ◌&&◌, ◌==◌, List, [], ◌∷◌, length, is_some, Some, None, Option, sym, ap, ◌∙◌}
use Rattle.train.specs.declared.entries.Vehicle.{Vehicle}
use Rattle.train.specs.declared.identity.Identity.{Identity}
use Rattle.train.specs.declared.refusal.Part.TheVariants.{Roster}
use Rattle.train.specs.declared.refusal.Reason.TheVariants.{RosterFull}
use Rattle.train.specs.declared.refusal.Refusal.{Refusal}
use Rattle.train.specs.Refusals.{refusal, or_else, must}
use Rattle.train.proofs.Rules.{refusal-joined}
use Rattle.fleet.specs.declared.roster.Seat.{Seat}
use Rattle.fleet.specs.Rosters.{consist_checks, Announces}
use Rattle.fleet.specs.Seats.{is_here, meaning_in, apart_seats}
use Rattle.fleet.specs.Seeks.{find}
use Rattle.fleet.specs.Heads.{first_refused}
use Rattle.fleet.proofs.Crowds.{crammed, full_decided}

module _ (ss : List Seat) (id : Identity) (n : ℕ) (vs : List Vehicle) (l : length ss ≤ 63) (a : apart_seats ss ≡ true) where
  -- a check of the consist refuses
  pub refused_before : (x : Refusal) (answer : Option Refusal) → answer ≡ Some x → Some x ≡ refusal Roster (consist_checks id n vs) → Announces (meaning_in ss) id n vs answer
  refused_before x answer e v =
      record {
        full = crammed id ss;
        decided = full_decided ss id l a;
        is = e ∙ first_refused Roster (consist_checks id n vs) (must (not (crammed id ss)) RosterFull ∷ []) x v;
      }

  -- the consist passes, and the seats decide
  pub seats_decide : (b : Bool) (answer : Option Refusal) → crammed id ss ≡ b → None ≡ refusal Roster (consist_checks id n vs) → answer ≡ refusal Roster (must (not b) RosterFull ∷ [])
      → Announces (meaning_in ss) id n vs answer
  seats_decide b answer e v w =
      record {
        full = crammed id ss;
        decided = full_decided ss id l a;
        is = w ∙ ap (λ (x : Bool). refusal Roster (must (not x) RosterFull ∷ [])) (sym e)
            ∙ sym (refusal-joined Roster (consist_checks id n vs) (must (not (crammed id ss)) RosterFull ∷ [])
            ∙ ap (λ (o : Option Refusal). or_else o (refusal Roster (must (not (crammed id ss)) RosterFull ∷ []))) (sym v));
      }

  pub seated : (k : ℕ) → Some k ≡ find (is_here id) 0 ss → crammed id ss ≡ false
  seated k e = ap (λ o. not (is_some o) && (length ss == 63)) (sym e)

  pub unseated : (b : Bool) → None ≡ find (is_here id) 0 ss → b ≡ (length ss == 63) → crammed id ss ≡ b
  unseated b e f = ap (λ o. not (is_some o) && (length ss == 63)) (sym e) ∙ sym f
