-- What a call that was carried out, or refused, does to the facts.
use Rattle.std.proofs.Common.{◌≡◌, ℕ, ◌≤◌, List, [], ◌++◌, length, get_or, take, set, replicate, Some, None, Option, sym, refl, ap, ◌∙◌, arith}
use Rattle.std.proofs.lemmas.List.{take_at}
use Rattle.train.specs.declared.identity.Identity.{Identity}
use Rattle.train.specs.declared.name.Name.{Name}
use Rattle.train.specs.declared.entries.Coupled.{Coupled}
use Rattle.bench.specs.declared.claims.Claim.{Claim}
use Rattle.bench.specs.Table.{kept}
use Rattle.bench.proofs.Places.{claims_put, kept_at, none_kept}
use Rattle.std.proofs.lemmas.Bool.{cond-true, cond-false}
use Rattle.train.specs.declared.refusal.Part.TheVariants.{Bench}
use Rattle.train.specs.declared.refusal.Refusal.{Refusal}
use Rattle.train.specs.Refusals.{refusal}
use Rattle.train.proofs.Rules.{all_met, not_all_met}
use Rattle.bench.specs.Calls.{Call}
use Rattle.bench.specs.Facts.{Facts, checks, accepted, done, after, put, Place}

pub refused_keeps : (f : Facts) (k : Call) (r : Refusal) → Some r ≡ refusal Bench (checks f k) → f ≡ after f k
refused_keeps f k r h = sym (cond-false (accepted f k) (done f k) f (not_all_met Bench (checks f k) r h))

pub taken_does : (f : Facts) (k : Call) → None ≡ refusal Bench (checks f k) → done f k ≡ after f k
taken_does f k h = sym (cond-true (accepted f k) (done f k) f (all_met Bench (checks f k) h))

-- the facts with other claims, and a claim that was made
abbrev pub with_claims : Facts → (Identity → Option Claim) → Facts
with_claims f claims = record { etb = f.etb; formation = f.formation; claims = claims; confirmed = f.confirmed }

-- the place where a consist stands, with room in the table for the formation
module _ (x : Identity) (es : List Coupled) (table : List (Option Claim)) (i : ℕ) (p : Place x es i) (few : length es ≤ 63) (long : length table ≡ 63) where
  pub claim_put : (c : Option Claim) → kept es (set table i c) ≡ put (kept es table) x c
  claim_put c = claims_put x c es table i _ p.inside (omega (arith, few, long)) p.here p.first

  pub claim_read : (k : Option Claim) → get_or table i k ≡ kept es table x
  claim_read k = sym (kept_at x es table i _ k p.inside (omega (arith, few, long)) p.here p.first)

-- what was copied to the front of a table is what was lent
pub front_copied : {A : Type 0} (xs copied rest : List A) → copied ≡ xs → take (length xs) (copied ++ rest) ≡ xs
front_copied xs copied rest e = ap (λ z. take (length xs) (z ++ rest)) e ∙ take_at xs rest (length xs) refl

-- what stands once a formation is inaugurated
pub fresh_facts : (es : List Coupled) (etb : ℕ) (formation : List Coupled) (names : List Name) → es ≡ formation → names ≡ []
    → ◌≡◌ {A = Facts} (record { etb = etb; formation = es; claims = kept es (replicate 63 None); confirmed = names })
    (record { etb = etb; formation = formation; claims = λ _. None; confirmed = [] })
fresh_facts es etb formation names e q =
    let none = none_kept es in
    λ i. record { etb = etb; formation = e i; claims = none i; confirmed = q i }
