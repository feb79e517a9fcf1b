-- The five calls of a bench, as values.
use Rattle.std.specs.Prelude.{ℕ, List, map}
use Rattle.train.specs.declared.identity.Identity.{Identity}
use Rattle.train.specs.declared.name.Name.{Name}
use Rattle.train.specs.declared.entries.Coupled.{Coupled}
use Rattle.bench.specs.declared.calls.Call.{Call as Lent}
use Rattle.bench.specs.declared.calls.Call.TheVariants.{Inaugurate, Claim, Yield, Confirm, Withdraw}

pub data Call : Type 0 where
  inaugurate : ℕ → List Coupled → Call
  claim : Identity → ℕ → ℕ → Call
  yield : Identity → Call
  confirm : List Name → Call
  withdraw : Call

-- a call as a program holds it
abbrev pub said : Lent → Call
said (Inaugurate etb formation) = Call.inaugurate etb formation.now
said (Claim identity vehicle direction) = Call.claim identity vehicle direction
said (Yield identity) = Call.yield identity
said (Confirm names) = Call.confirm names.now
said Withdraw = Call.withdraw

-- a list of calls
abbrev pub run : List Lent → List Call
run = map said
