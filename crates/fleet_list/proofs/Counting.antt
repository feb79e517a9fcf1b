-- The digits of a counter that are read.
use Rattle.std.proofs.Common.{◌≡◌, ℕ, ◌+◌, ◌<◌, ◌≤◌, ◌++◌, Bool, true, false, ltb, length, get_or, drop, Ok, Err, Option, sym, refl, ap, ◌∙◌, subst, arith, ltb-true, ltb-false, lt-ltb}
use Rattle.train.specs.declared.refusal.Refusal.{Refusal}
use Rattle.fleet_list.specs.declared.cursor.Cursor.{Cursor}
use Rattle.fleet_list.specs.Cursors.{Stays, Takes, TakesOne, Exactly}
use Rattle.fleet_list.specs.Counters.{digit, turn_of, Counter, counter_text}
use Rattle.fleet_list.specs.Forms.{Refused, fault}
use Rattle.fleet_list.specs.Machine.{refuse, done}
use Rattle.fleet_list.specs.Parts.{same}
use Rattle.fleet_list.proofs.Cursors.{stays_on}
use Rattle.fleet_list.proofs.Digits.{accepted_printed, refused_breaks}
use Rattle.fleet_list.proofs.Seq.{reads, at_place}
use Rattle.fleet_list.proofs.Stops.{bad, run, step_is, short_is}

-- v is what the digits between the two cursors write, 0 where there are none
pub record Counting (c d : Cursor) (v : ℕ) : Type 0 where
  pub stays : Stays c d
  pub run_is : run digit 0 c.at (drop c.at c.text.now) ≡ run digit v d.at (drop d.at d.text.now)

-- the number that the digit b makes behind v, or none
abbrev pub Goes : ℕ → ℕ → Option ℕ → Type 0
Goes v b o = (b ≡ 32 → v ≡ 0) → turn_of o ≡ digit v b

refused : (c : Cursor) (at : ℕ) (x : Refusal) → x ≡ fault c.line (at + 1) → run digit 0 c.at (drop c.at c.text.now) ≡ bad at → Refused Counter counter_text c.text.now c.at c.line x
refused c at x h e = let r = refused_breaks c.at (drop c.at c.text.now) at e in record { k = r.0; is = at_place c.line x h (omega (arith, r.1)); breaks = r.2 }

stops : (d : Cursor) (v : ℕ) (z : Bool) → ltb d.at (length d.text.now) ≡ z → (d.at < length d.text.now → digit v (get_or d.text.now d.at 0) ≡ refuse) → run digit v d.at (drop d.at d.text.now) ≡ bad d.at
stops d v true z h = let l = ltb-true d.at (length d.text.now) z in step_is digit v d.at d.text.now refuse l (sym (h l))
stops d v false z h = short_is digit v d.at d.text.now (ltb-false d.at (length d.text.now) z)

pub counting_stuck : {c d e : Cursor} {v : ℕ} {x : Refusal} → (d.at < length d.text.now → get_or d.text.now d.at 0 ≡ 32 → v ≡ 0) → Counting c d v → TakesOne (Goes v) d e (Err x) → Takes Counter counter_text same c e (Err x)
counting_stuck {c} {d} {e} {v} {x} h a t =
    let b = stops d v (ltb d.at (length d.text.now)) refl (λ l. sym (t.answer.1 l (h l))) in
    record { stays = stays_on a.stays t.stays; answer = refused c d.at x (t.answer.0 ∙ ap (λ n. fault n (d.at + 1)) a.stays.line) (a.run_is ∙ b) }

pub counting_done : {c d e : Cursor} {v : ℕ} {u : Unit {0}} → 0 < v → Counting c d v → TakesOne (Exactly 32) d e (Ok u) → Takes Counter counter_text same c e (Ok v)
counting_done {c} {d} {e} {v} {u} h a t =
    let l = t.answer.0 in
    let s = step_is digit v d.at d.text.now (done v) l (sym (ap (digit v) t.answer.1 ∙ (let k : digit v 32 ≡ done v = simp (lt-ltb 0 v h) in k))) in
    let p = accepted_printed c.at (drop c.at c.text.now) (drop (d.at + 1) d.text.now) v (d.at + 1) (a.run_is ∙ s) in
    let same_text : e.text.now ≡ c.text.now = t.stays.text ∙ a.stays.text in
    record {
      stays = stays_on a.stays t.stays;
      answer = reads Counter counter_text c.text.now c.at v e.at c.within (subst (λ z. e.at ≤ length z) same_text e.within) p.0
          (p.1 ∙ ap (λ z. counter_text v ++ z) (ap (λ i. drop i d.text.now) (sym t.answer.2) ∙ ap (drop e.at) a.stays.text));
    }
