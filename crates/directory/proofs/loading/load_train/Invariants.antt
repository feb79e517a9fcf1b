use Rattle.std.proofs.Common.{◌≡◌, take}
use Rattle.bench.specs.Shown.{shown}
use Rattle.directory.specs.Cars.{train}
use Rattle.directory.proofs.loading.load_train.Given as goal

abbrev pub invariant-loop-entry : goal.invariant-loop-entry
invariant-loop-entry g l = l.cars.items ≡ train (g.F.Meant.meaning l.fleet) (shown l.bench).claims (take l.entry-index l.formation)
