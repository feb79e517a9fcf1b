use Rattle.fleet.specs.Fleets.{vehicles_of}
use Rattle.directory.proofs.Loads.{Loading}
use Rattle.directory.proofs.loading.load_consist.Given as goal

abbrev pub invariant-loop-k : goal.invariant-loop-k
invariant-loop-k g l =
    Loading l.identity l.claim (vehicles_of (g.F.Meant.meaning l.fleet l.identity)) l.k l.initial.cars.items l.cars.items
