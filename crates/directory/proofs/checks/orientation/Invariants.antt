use Rattle.std.proofs.Common.{◌≡◌, drop}
use Rattle.bench.specs.Shown.{shown}
use Rattle.directory.specs.Operation.{leads, orient}
use Rattle.directory.proofs.checks.orientation.Given as goal

abbrev pub invariant-loop-entry : goal.invariant-loop-entry
invariant-loop-entry l =
    orient (leads (shown l.bench).claims l.formation) ≡ orient (leads (shown l.bench).claims (drop l.entry-index l.formation))
