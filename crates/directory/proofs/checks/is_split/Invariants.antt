use Rattle.std.proofs.Common.{◌≡◌, drop}
use Rattle.directory.specs.Composing.{split}
use Rattle.directory.proofs.checks.is_split.Given as goal

abbrev pub invariant-loop-i : goal.invariant-loop-i
invariant-loop-i l = split l.identity l.cars ≡ split l.identity (drop l.i l.cars)
