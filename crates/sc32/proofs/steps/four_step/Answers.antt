use Rattle.std.proofs.Common.{rules, refl, arith}
use Rattle.sc32.specs.Checksum.{bit_steps}
use Rattle.sc32.proofs.Four.{by_tables}
use Rattle.sc32.proofs.Table.{rule}
use Rattle.sc32.proofs.Values.{steps8, steps16, steps24, steps32}
use Rattle.sc32.proofs.steps.four_step.Goals as goal

pub after-requires : goal.after-requires
unfolding bit_steps steps32
after-requires c = rule 32 steps32 tt refl

pub after-requires-2 : goal.after-requires-2
unfolding bit_steps steps24
after-requires-2 c = rule 24 steps24 tt refl

pub after-requires-3 : goal.after-requires-3
unfolding bit_steps steps16
after-requires-3 c = rule 16 steps16 tt refl

pub after-requires-4 : goal.after-requires-4
unfolding bit_steps steps8
after-requires-4 c = rule 8 steps8 tt refl

pub returns : goal.returns
returns c =
    by_tables c.args.register _ _ _ _ c.to_be_bytes.result c.args.bytes (omega arith) c.to_be_bytes.ensures (search rules) (λ i. search rules)
    c.after.ensures c.after-2.ensures c.after-3.ensures c.after-4.ensures
