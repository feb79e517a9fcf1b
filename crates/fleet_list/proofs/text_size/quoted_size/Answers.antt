use Rattle.std.proofs.Common.{◌≡◌, length, rules, arith}
use Rattle.std.specs.List.{sum_by}
use Rattle.fleet_list.specs.Texts.{escaped}
use Rattle.fleet_list.proofs.Sizes.{flat_long, quoted_long, escaped_few}
use Rattle.fleet_list.proofs.text_size.quoted_size.Goals as goal

pub overflow_add-result : goal.overflow_add-result
overflow_add-result c =
    let s : c.sum.result ≡ sum_by (λ b. length (escaped b)) c.args.text.now = search rules in
    omega (arith, flat_long escaped c.args.text.now, escaped_few c.args.text.now)

pub returns : goal.returns
returns c =
    let s : c.sum.result ≡ sum_by (λ b. length (escaped b)) c.args.text.now = search rules in
    omega (arith, flat_long escaped c.args.text.now, quoted_long c.args.text.now)
