use Rattle.std.proofs.Common.{◌≡◌, true, rules}
use Rattle.bench.specs.Facts.{coupled_in}
use Rattle.bench.proofs.Places.{in_at}
use Rattle.bench.proofs.state.Bench.place_for.Goals as goal

pub returns-in-Some-clause-answer : goal.returns-in-Some-clause-answer
returns-in-Some-clause-answer c =
    let x = c.args.identity.now in
    let p = c.in-Some.ensures in
    let found : coupled_in x c.formation.result.now ≡ true = in_at x c.formation.result.now c.in-Some.place _ p.inside p.here in
    search rules
