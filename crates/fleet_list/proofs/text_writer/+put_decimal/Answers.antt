use Rattle.std.proofs.Common.{◌+◌, ◌%◌, sym, arith}
use Rattle.std.proofs.lemmas.Fmt.{decimal_digit, decimal_step}
use Rattle.fleet_list.proofs.Behind.{then_byte, written_none, same_text}
use Rattle.fleet_list.proofs.Sizes.{long_one, long_more}
use Rattle.fleet_list.proofs.text_writer.+put_decimal.Goals as goal

pub bounds-out-0 : goal.bounds-out-0
bounds-out-0 t c = omega (arith, long_one c.args.n c.if-n-lt10.true)

pub returns-then-n-lt10 : goal.returns-then-n-lt10
returns-then-n-lt10 t c = same_text (sym (decimal_digit c.args.n c.if-n-lt10.true)) (then_byte (written_none c.args.out.now) (48 + c.args.n) (omega (arith, long_one c.args.n c.if-n-lt10.true)))

pub put_decimal-at-requires : goal.put_decimal-at-requires
put_decimal-at-requires t c = (omega arith, omega (arith, long_more c.args.n c.if-n-lt10.false (omega arith)))

pub bounds-out-at : goal.bounds-out-at
bounds-out-at t c =
    let w = c.put_decimal-at.ensures in
    omega (arith, long_more c.args.n c.if-n-lt10.false (omega arith), w.long)

pub returns : goal.returns
returns t c =
    let w = c.put_decimal-at.ensures in
    same_text (sym (decimal_step c.args.n c.if-n-lt10.false (omega arith))) (then_byte w (48 + c.args.n % 10) (omega (arith, long_more c.args.n c.if-n-lt10.false (omega arith), w.long)))
