use Rattle.train.proofs.Bytes.{order_laws}
use Rattle.train.proofs.octets.bytes_are_ordered.Goals as goal

pub returns : goal.returns
returns c = order_laws
