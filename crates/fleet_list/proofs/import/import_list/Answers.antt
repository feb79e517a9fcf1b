use Rattle.fleet_list.proofs.Decides.{decided}
use Rattle.fleet_list.proofs.import.import_list.Goals as goal

pub returns : goal.returns
returns c = record {
  answer = c.read_and_store.ensures;
  decided = decided c.args.text.now c.args.out.now c.read_and_store.new.out c.read_and_store.result c.read_and_store.ensures;
}
