use Rattle.std.proofs.Common.{◌*◌, ◌%◌, ◌^◌, refl, sym, ap, ◌∙◌, arith}
use lib.Bits.{bit_xor}
use Rattle.sc32.specs.Checksum.{bit_steps}
use Rattle.sc32.proofs.Shifts.{by_table}
use Rattle.sc32.proofs.Table.{rule}
use Rattle.sc32.proofs.Values.{steps8}
use Rattle.sc32.proofs.steps.byte_step.Goals as goal

pub after-requires : goal.after-requires
unfolding bit_steps steps8
after-requires c = rule 8 steps8 tt refl

pub returns : goal.returns
returns c =
    let register = c.args.register in
    ap (bit_xor (register * 2 ^ 8 % 2 ^ 32)) c.after.ensures ∙ sym (by_table register c.args.byte (omega arith))
