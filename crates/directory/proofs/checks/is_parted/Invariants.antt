use Rattle.std.proofs.Common.{◌≡◌, drop}
use Rattle.directory.specs.Composing.{parted}
use Rattle.directory.proofs.checks.is_parted.Given as goal

abbrev pub invariant-loop-i : goal.invariant-loop-i
invariant-loop-i l = parted l.cars ≡ parted (drop l.i l.cars)
