use Rattle.std.proofs.Common.{sym}
use Rattle.fleet_list.proofs.Sizes.{twice}
use Rattle.fleet_list.proofs.text_size.hex_size.Goals as goal

pub returns : goal.returns
returns c = sym (twice c.args.bytes.now)
