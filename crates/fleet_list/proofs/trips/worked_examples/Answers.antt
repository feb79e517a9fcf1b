use Rattle.fleet_list.proofs.Examples.{examples}
use Rattle.fleet_list.proofs.trips.worked_examples.Goals as goal

pub returns : goal.returns
returns c = examples
