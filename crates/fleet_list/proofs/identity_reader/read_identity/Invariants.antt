use Rattle.std.proofs.Common.{take}
use Rattle.fleet_list.specs.Parts.{Byte}
use Rattle.fleet_list.specs.Texts.{byte_text}
use Rattle.fleet_list.proofs.Runs.{Along}
use Rattle.fleet_list.proofs.identity_reader.read_identity.Given as goal

abbrev pub invariant-loop-slot : goal.invariant-loop-slot
invariant-loop-slot l = Along Byte byte_text l.initial.cursor l.cursor (take l.slot-index l.slot-items)
