use Rattle.std.proofs.Common.{refl}
use Rattle.std.proofs.lemmas.Grind.{put_two}
use Rattle.console.proofs.Digits.{run_more, runs_and_rest}
use Rattle.console.proofs.show.HexDisplay.fmt.Goals as goal

pub loop-run-preserved : goal.loop-run-preserved
loop-run-preserved g c = λ plain.
    let before = c.loop-run.invariant plain in
    put_two _ _ _ _ _ _ _ before (c.in_ok-write_str.ensures.writes before.plain refl) (run_more c.as_chunks.result.0.now c.loop-run.run-index _ c.loop-run-test.true c.digits.ensures)

pub returns-clause-writes : goal.returns-clause-writes
returns-clause-writes g c = λ plain ok.
    let before = c.loop-run.invariant plain in
    put_two _ _ _ _ _ _ _ before (c.write_str-2.ensures.writes before.plain ok) (runs_and_rest c.args.self.now.0.now c.as_chunks.result.1.now _ c.as_chunks.result.0.now c.loop-run.run-index _ c.as_chunks.ensures.front c.as_chunks.ensures.back c.loop-run-test.false c.digits-2.ensures)
