use Rattle.std.proofs.Common.{◌≡◌, take}
use Rattle.sc32.specs.Checksum.{checksum}
use Rattle.sc32.proofs.over_bytes.Given as goal

abbrev pub invariant-loop-byte : goal.invariant-loop-byte
invariant-loop-byte l = l.register ≡ checksum l.seed (take l.byte-index l.bytes)
