use Rattle.std.proofs.Common.{refl, arith}
use Rattle.fleet_list.proofs.Behind.{lend, then_byte, written_none}
use Rattle.fleet_list.proofs.Sizes.{quoted_long}
use Rattle.fleet_list.proofs.text_writer.put_quoted.Goals as goal

pub returns : goal.returns
returns c =
    let l = quoted_long c.args.text.now in
    then_byte (lend (then_byte (written_none c.args.out.now) 34 (omega (arith, c.requires))) c.put_each-at.ensures refl) 34 (omega (arith, c.requires, c.put_each-at.ensures.long))
