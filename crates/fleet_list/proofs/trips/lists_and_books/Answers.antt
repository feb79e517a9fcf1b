use Rattle.fleet_list.proofs.Examples.{one_to_one}
use Rattle.fleet_list.proofs.trips.lists_and_books.Goals as goal

pub returns : goal.returns
returns c = one_to_one
