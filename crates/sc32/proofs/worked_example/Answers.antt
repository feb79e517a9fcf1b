use Rattle.std.proofs.Common.{refl}
use Rattle.sc32.specs.Checksum.{bit_steps, checksum}
use Rattle.sc32.proofs.worked_example.Goals as goal

pub returns : goal.returns
unfolding bit_steps checksum
returns c = record { value = refl }
