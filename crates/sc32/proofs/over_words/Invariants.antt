use Rattle.std.proofs.Common.{◌≡◌, take}
use Rattle.std.specs.List.{concat}
use Rattle.sc32.specs.Checksum.{checksum}
use Rattle.sc32.proofs.over_words.Given as goal

abbrev pub invariant-loop-word : goal.invariant-loop-word
invariant-loop-word l = l.register ≡ checksum l.seed (concat (take l.word-index l.words))
