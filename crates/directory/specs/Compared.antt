-- What composing a run answered, read from the answer and the buffer that it was lent.
use Rattle.std.specs.Prelude.{◌≡◌, ℕ, Bool, cond, List, length, take, None, Ok, Err, Decides, Option, Result, MatchOption, MatchResult, ◌≢◌}
use Rattle.train.specs.declared.refusal.Refusal.{Refusal}
use Rattle.fleet.specs.Fleets.{Meaning}
use Rattle.bench.specs.declared.calls.Call.{Call as Lent}
use Rattle.bench.specs.Calls.{run}
use Rattle.directory.specs.Composing.{Outcome}
use Rattle.directory.specs.Composing.Outcome.{refused, written}
use Rattle.directory.specs.declared.comparing.LeadingEnds.{LeadingEnds}
use Rattle.directory.specs.declared.comparing.LeadingEnds.TheVariants.{Same, Different, Unled}
use Rattle.directory.specs.declared.comparing.Likeness.{Likeness}
use Rattle.directory.specs.Law.{Side, answer, Led}
use Rattle.directory.specs.Part.{leading_part}
use Rattle.directory.specs.Written.{Written}

-- these calls on a new bench, this fleet, and a buffer
abbrev pub side : List Lent → Meaning → List ℕ → Side
side calls m out = record { run = run calls; fleet = m; room = length out }

-- the composition is as many bytes of the buffer as the answer says
abbrev pub seen : Result ℕ Refusal → List ℕ → Outcome
seen (Ok n) out = written (take n out)
seen (Err r) out = refused r

-- the answer is the definition's, and the buffer is otherwise as it was
pub record Answered (s : Side) (r : Result ℕ Refusal) (before after : List ℕ) : Type 0 where
  pub outcome : seen r after ≡ answer s
  pub buffer : MatchResult r (λ n. Written (take n after) before n after) (λ _. after ≡ before)

-- leading ends are compared where both sides are led
abbrev pub ends_of : Bool → Bool → LeadingEnds
ends_of led same = cond led (cond same Same Different) Unled

-- what is said of the leading ends of two compositions
abbrev pub Ends : Side → Side → List ℕ → List ℕ → LeadingEnds → Type 0
Ends l r b c Same = Led l × Led r × (leading_part b ≡ leading_part c)
Ends l r b c Different = Led l × Led r × (leading_part b ≢ leading_part c)
Ends l r b c Unled = Led l × Led r → ⊥

-- k says how two compositions compare
pub record IsLikeness (l r : Side) (b c : List ℕ) (k : Likeness) : Type 0 where
  pub same : Decides k.same (b ≡ c)
  pub ends : Ends l r b c k.ends

-- two outcomes are compared where both composed
abbrev pub Likened : Side → Side → Outcome → Outcome → Option Likeness → Type 0
Likened l r (refused x) y k = k ≡ None
Likened l r (written b) (refused y) k = k ≡ None
Likened l r (written b) (written c) k = MatchOption k ⊥ (IsLikeness l r b c)
