use Rattle.std.proofs.Common.{◌/◌, sym, arith}
use Rattle.fleet_list.proofs.Sizes.{long_one, long_more, decimal_few}
use Rattle.fleet_list.proofs.text_size.+decimal_size.Goals as goal

pub overflow_add-result : goal.overflow_add-result
overflow_add-result t c = omega (arith, decimal_few (c.args.n / 10) (omega arith), c.ranges.n.fits)

pub returns-then-n-lt10 : goal.returns-then-n-lt10
returns-then-n-lt10 t c = sym (long_one c.args.n c.if-n-lt10.true)

pub returns-else-n-lt10 : goal.returns-else-n-lt10
returns-else-n-lt10 t c = omega (arith, long_more c.args.n c.if-n-lt10.false (omega arith))
