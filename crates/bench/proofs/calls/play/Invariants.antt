use Rattle.std.proofs.Common.{◌≡◌, drop}
use Rattle.bench.specs.Calls.{run}
use Rattle.bench.specs.Facts.{after_all}
use Rattle.bench.specs.Shown.{shown}
use Rattle.bench.proofs.calls.play.Given as goal

abbrev pub invariant-loop-call : goal.invariant-loop-call
invariant-loop-call l =
    after_all (shown l.initial.bench) (run l.calls) ≡ after_all (shown l.bench) (run (drop l.call-index l.calls))
