-- The standing facts, read from the calls alone: each fact by itself, as a relation over the run.
use Rattle.std.specs.Prelude.{◌≡◌, ℕ, ◌≤◌, Bool, true, ◌&&◌, ◌⊎◌, ◌↔◌, List, [], ◌∷◌, ◌++◌, length, Some}
use Rattle.train.specs.declared.identity.Identity.{Identity}
use Rattle.train.specs.declared.name.Name.{Name}
use Rattle.train.specs.declared.entries.Coupled.{Coupled}
use Rattle.train.specs.Facings.{code}
use Rattle.train.specs.Identities.{is_identity}
use Rattle.train.specs.Names.{every}
use Rattle.bench.specs.declared.claims.Claim.{Claim}
use Rattle.bench.specs.Calls.{Call}
use Rattle.bench.specs.Calls.Call.{inaugurate, claim, yield, confirm, withdraw}
use Rattle.bench.specs.Facts.{Facts, nothing, accepted, after_all, coupled_in, checks, list_checks, within}

-- what can stand: an ETB counter with a formation, a claim of a consist, a confirmed list
pub data Fact : Type 0 where
  coupled : ℕ → List Coupled → Fact
  claimed : Identity → Claim → Fact
  listed : List Name → Fact

-- the call that sets it
abbrev pub setting : Fact → Call
setting (coupled etb es) = inaugurate etb es
setting (claimed x c) = claim x c.vehicle (code c.direction)
setting (listed names) = confirm names

-- the calls that end it
abbrev pub Ends : Fact → Call → Type 0
Ends fact (inaugurate etb es) = Unit {0}
Ends (coupled etb es) (claim y v d) = ⊥
Ends (claimed x c) (claim y v d) = x ≡ y
Ends (listed names) (claim y v d) = ⊥
Ends (coupled etb es) (yield y) = ⊥
Ends (claimed x c) (yield y) = x ≡ y
Ends (listed names) (yield y) = ⊥
Ends (coupled etb es) (confirm ns) = ⊥
Ends (claimed x c) (confirm ns) = ⊥
Ends (listed names) (confirm ns) = Unit {0}
Ends (coupled etb es) withdraw = ⊥
Ends (claimed x c) withdraw = ⊥
Ends (listed names) withdraw = Unit {0}

-- the call is accepted after these: it meets no refusal by its arguments and what they left
abbrev pub Taken : List Call → Call → Type 0
Taken before k = accepted (after_all nothing before) k ≡ true

-- after `before`, no call of `rest` that is accepted ends it
abbrev pub Untouched : Fact → List Call → List Call → Type 0
Untouched fact before [] = Unit {0}
Untouched fact before (k ∷ rest) = (Taken before k → Ends fact k → ⊥) × Untouched fact (before ++ k ∷ []) rest

-- an accepted call of the run set it, and no accepted call after that ended it
pub record Stands (run : List Call) (fact : Fact) : Type 0 where
  pub before : List Call
  pub rest : List Call
  pub split : run ≡ before ++ setting fact ∷ rest
  pub was_taken : Taken before (setting fact)
  pub untouched : Untouched fact (before ++ setting fact ∷ []) rest

-- these facts have it among them
abbrev pub Holds : Facts → Fact → Type 0
Holds f (coupled etb es) = (f.etb ≡ etb) × (f.formation ≡ es) × (1 ≤ length es)
Holds f (claimed x c) = f.claims x ≡ Some c
Holds f (listed names) = (f.confirmed ≡ names) × (1 ≤ length names)

-- these facts are exactly those that stand in the run
abbrev pub Shows : Facts → List Call → Type 0
Shows f run = (fact : Fact) → Holds f fact ↔ Stands run fact

-- what a call asks of the calls before it
abbrev pub Allowed : List Call → Call → Type 0
Allowed run (inaugurate etb es) = Unit {0}
Allowed run (claim x v d) = (etb : ℕ) × (es : List Coupled) × Stands run (coupled etb es) × (coupled_in x es ≡ true)
Allowed run (yield x) = (c : Claim) × Stands run (claimed x c)
Allowed run (confirm names) = (etb : ℕ) × (es : List Coupled) × Stands run (coupled etb es)
Allowed run withdraw = (names : List Name) × Stands run (listed names)

pub record StandingLaws (run : List Call) : Type 0 where
  -- at most one of each stands
  pub one_formation : (m n : ℕ) (es fs : List Coupled) → Stands run (coupled m es) → Stands run (coupled n fs) → (m ≡ n) × (es ≡ fs)
  pub one_claim : (x : Identity) (c d : Claim) → Stands run (claimed x c) → Stands run (claimed x d) → c ≡ d
  pub one_list : (ns ms : List Name) → Stands run (listed ns) → Stands run (listed ms) → ns ≡ ms
  -- and whether one stands is decided
  pub formation_or_none : ((n : ℕ) × (es : List Coupled) × Stands run (coupled n es)) ⊎ ((n : ℕ) (es : List Coupled) → Stands run (coupled n es) → ⊥)
  pub claim_or_none : (x : Identity) → ((c : Claim) × Stands run (claimed x c)) ⊎ ((c : Claim) → Stands run (claimed x c) → ⊥)
  pub list_or_none : ((ns : List Name) × Stands run (listed ns)) ⊎ ((ns : List Name) → Stands run (listed ns) → ⊥)

-- a call's arguments are in order, whatever stands
abbrev pub well : Call → Bool
well (inaugurate etb es) = every (λ c. c.ok) (checks nothing (inaugurate etb es))
well (claim x vehicle direction) = is_identity x.bytes && (within 1 32 vehicle && within 1 2 direction)
well (yield x) = is_identity x.bytes
well (confirm names) = every (λ c. c.ok) (list_checks names)
well withdraw = true

-- a next call is accepted exactly where its arguments are in order and what stands lets it be
abbrev pub AcceptedAsTold : List Call → Type 0
AcceptedAsTold run = (k : Call) → Taken run k ↔ ((well k ≡ true) × Allowed run k)
