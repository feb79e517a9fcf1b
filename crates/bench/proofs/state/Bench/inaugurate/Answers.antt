use Rattle.std.proofs.Common.{◌∙◌}
use Rattle.bench.specs.Calls.{Call}
use Rattle.bench.specs.Shown.{shown}
use Rattle.bench.proofs.Acts.{taken_does, fresh_facts}
use Rattle.bench.proofs.state.Bench.inaugurate.Goals as goal

pub returns-clause-facts : goal.returns-clause-facts
returns-clause-facts c =
    fresh_facts c.in_ok-self.field-0.items c.args.etb c.args.formation.now c.clear.new.self.items c.in_ok-self.ensures.list c.clear.ensures
    ∙ taken_does (shown c.args.self.now) (Call.inaugurate c.args.etb c.args.formation.now) c.in_ok-self.ensures.answer
