-- A plan: a book, and a run of calls on a new bench that is then composed over it, all as bytes.
use Rattle.std.specs.Prelude.{◌≡◌, ℕ, ◌/◌, ◌%◌, Bool, true, cond, List, [], ◌∷◌, ◌++◌, map, length, take, IfOk, Some, None, Option, Result, MatchResult, ◌==◌}
use Rattle.train.specs.declared.name.Name.{Name}
use Rattle.train.specs.declared.refusal.Part.TheVariants.{Book, Bench}
use Rattle.train.specs.declared.refusal.Reason.TheVariants.{EntryCount}
use Rattle.train.specs.declared.refusal.Refusal.{Refusal}
use Rattle.train.specs.Rows.{coupled_in}
use Rattle.train.specs.Refusals.{Check, must, or_else, refusal, refusal_of}
use Rattle.fleet.specs.Rows.{rows}
use Rattle.fleet.specs.Books.{book_checks, fleet_of, meaning_of}
use Rattle.bench.specs.Calls.{Call}
use Rattle.bench.specs.Calls.Call.{inaugurate, claim, confirm}
use Rattle.bench.specs.Facts.{Facts, nothing, checks, after, after_all, some}
use Rattle.directory.specs.Composing.{Outcome, composed_into}
use Rattle.directory.specs.Composing.Outcome.{refused}
use Rattle.directory.specs.Compared.{seen}
use Rattle.directory.specs.Written.{Written}
use Rattle.linkage.specs.declared.answer.Answer.{Answer}
use Rattle.linkage.specs.declared.plan.Plan.{Plan as Lent}
use Rattle.linkage.specs.Told.{Tells, unlined}

pub record Plan : Type 0 where
  pub book : List ℕ
  pub etb : ℕ
  pub formation : List ℕ
  pub claimed : List ℕ
  pub vehicle : ℕ
  pub direction : ℕ
  pub confirmed : List ℕ

-- a plan as a program holds it
abbrev pub said : Lent → Plan
said p = record {
  book = p.book.now;
  etb = p.etb;
  formation = p.formation.now;
  claimed = p.claimed.now;
  vehicle = p.vehicle;
  direction = p.direction;
  confirmed = p.confirmed.now;
}

-- entries of w bytes, one behind another
abbrev pub entries : ℕ → List ℕ → List (List ℕ)
entries w bs = rows w (length bs / w) bs

abbrev pub name_of : List ℕ → Name
name_of row = record { bytes = row }

-- a call of the run, and whether the bytes of its entries are whole entries
pub record Step : Type 0 where
  pub whole : Bool
  pub call : Call

abbrev pub coupling : ℕ → List ℕ → Step
coupling etb bs = record { whole = (length bs % 17 == 0); call = inaugurate etb (map coupled_in (entries 17 bs)) }

-- no bytes are no claim, and no confirmed list
abbrev pub claiming : List ℕ → ℕ → ℕ → List Step
claiming bs vehicle direction = cond (some bs) (record { whole = true; call = claim (record { bytes = bs }) vehicle direction } ∷ []) []

abbrev pub confirming : List ℕ → List Step
confirming bs = cond (some bs) (record { whole = (length bs % 16 == 0); call = confirm (map name_of (entries 16 bs)) } ∷ []) []

-- the run of a plan
abbrev pub steps : Plan → List Step
steps p = coupling p.etb p.formation ∷ (claiming p.claimed p.vehicle p.direction ++ confirming p.confirmed)

abbrev pub calls : List Step → List Call
calls = map (λ s. s.call)

abbrev pub step_checks : Facts → Step → List Check
step_checks f s = must s.whole EntryCount ∷ checks f s.call

-- the first refusal that a run from these facts meets
abbrev pub stopped : Facts → List Step → Option Refusal
stopped f [] = None
stopped f (s ∷ ss) = or_else (refusal Bench (step_checks f s)) (stopped (after f s.call) ss)

abbrev pub or_outcome : Option Refusal → Outcome → Outcome
or_outcome None o = o
or_outcome (Some r) o = refused r

-- The first refusal of opening the book and of the run; else what its facts compose to over what the book means.
abbrev pub planned : Plan → ℕ → Outcome
planned p room =
    or_outcome (or_else (refusal Book (book_checks p.book)) (stopped nothing (steps p)))
    (composed_into (after_all nothing (calls (steps p))) (meaning_of (fleet_of p.book)) room)

-- playing these steps from the facts f answered r, and left the facts g
pub record Played {A : Type 0} (f : Facts) (ss : List Step) (r : Result A Refusal) (g : Facts) : Type 0 where
  pub answer : refusal_of r ≡ stopped f ss
  pub facts : IfOk r (λ _. g ≡ after_all f (calls ss))

-- the answer is the plan's outcome, and the buffer is otherwise as it was
pub record PlannedInto (p : Plan) (r : Result ℕ Refusal) (before after : List ℕ) : Type 0 where
  pub outcome : seen r after ≡ planned p (length before)
  pub buffer : MatchResult r (λ n. Written (take n after) before n after) (λ _. after ≡ before)

pub record Planned (p : Plan) (before after : List ℕ) (status : ℕ) (a : Answer) : Type 0 where
  pub result : Result ℕ Refusal
  pub into : PlannedInto p result before after
  pub told : Tells (unlined result) status a
