use Rattle.std.proofs.Common.{◌≡◌, ◌<◌, length, get_or, rules, arith}
use Rattle.fleet_list.proofs.Counting.{counting_stuck, counting_done}
use Rattle.fleet_list.proofs.Cursors.{passed_on, say_more, not_at}
use Rattle.fleet_list.proofs.counter_reader.read_counter.Goals as goal
use Rattle.fleet_list.proofs.counter_reader.read_counter.Goals.{After-take, then-value-eq0, else-value-eq0+then-not-is_at}

-- a space stands here only where there is no digit before it
no_space : (c : After-take) → c.loop-value.cursor.at < length c.loop-value.cursor.text.now → get_or c.loop-value.cursor.text.now c.loop-value.cursor.at 0 ≡ 32 → c.loop-value.value ≡ 0
no_space c l e = elim c.if-value-eq0.branch [ then-value-eq0 w ↦ w.if-value-eq0.true | else-value-eq0+then-not-is_at w ↦ absurd (not_at w.is_at.ensures w.if-not-is_at.true l e) ]

pub returns-in_err-value : goal.returns-in_err-value
returns-in_err-value c =
    passed_on c.from_residual.ensures.1 (counting_stuck (no_space (goal.at.returns-in_err-value c).After-take) c.loop-value.invariant (say_more c.in_err-value.ensures (λ x o p. search rules)))

pub returns : goal.returns
returns c = counting_done (omega (arith, c.if-value-eq0.false)) c.loop-value.invariant c.in_ok-expect.ensures
