use Rattle.std.proofs.Common.{sym, ◌∙◌}
use Rattle.train.specs.Ranks.{ranked_is}
use Rattle.train.proofs.octets.rank.Goals as goal

pub returns : goal.returns
returns c = c.cmp.ensures ∙ sym (ranked_is c.args.a.now c.args.b.now)
