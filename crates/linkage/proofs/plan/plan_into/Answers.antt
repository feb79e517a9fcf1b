use Rattle.bench.specs.Shown.{shown}
use Rattle.fleet.specs.Held.{lent}
use Rattle.linkage.specs.Plans.{said}
use Rattle.linkage.proofs.Plays.{composes}
use Rattle.linkage.proofs.plan.plan_into.Goals as goal

pub returns : goal.returns
returns c =
    let opened = c.in_ok-open.ensures in
    composes (said c.args.plan.now) (shown c.new-bench.result) (shown c.play_run.new.bench) (lent c.open.new.self) c.in_ok-play_run.field-0 c.compose.result c.args.out.now
    c.compose.new.out opened.answer opened.after c.new-bench.ensures c.in_ok-play_run.ensures c.compose.ensures.answer c.compose.ensures.wrote
