use Rattle.std.proofs.Common.{◌-◌, take, arith}
use Rattle.fleet_list.proofs.Sizes.{quoted_long, escaped_few}
use Rattle.fleet_list.proofs.text_size.name_size.Goals as goal

pub returns-clause-small : goal.returns-clause-small
returns-clause-small c =
    let t = take (c.text_len-n.result - 0) c.args.name.now.bytes in
    omega (arith, quoted_long t, escaped_few t, c.text_len-n.ensures.bound)
