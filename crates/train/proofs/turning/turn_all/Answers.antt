use Rattle.std.proofs.Common.{map, ap, ◌∙◌}
use Rattle.train.proofs.Turns.{turned_step, turned_end}
use Rattle.train.proofs.turning.turn_all.Goals as goal

pub loop-x-preserved : goal.loop-x-preserved
loop-x-preserved g c =
    turned_step g.T.Turn.turned c.loop-x.entries c.reverse.new.self c.loop-x.x-index c.x-item.result c.turn.result
    c.loop-x.invariant c.loop-x-test.true c.turn.ensures

pub returns : goal.returns
returns g c =
    turned_end g.T.Turn.turned c.loop-x.entries c.reverse.new.self c.loop-x.x-index c.loop-x.invariant c.loop-x-test.false
    ∙ ap (map g.T.Turn.turned) c.reverse.ensures.after
