use Rattle.std.proofs.Common.{rules, tests, ◌∙◌}
use Rattle.std.proofs.lemmas.Iterator.{YieldsList-from_slice}
use Rattle.std.proofs.lemmas.Iterator.Adapters.{position_from-zero}
use Rattle.std.proofs.lemmas.Iterator.Search.{position_from_yields_List}
use Rattle.fleet.specs.Seats.{is_here}
use Rattle.fleet.proofs.roster.seats.place_of.Goals as goal

pub returns-clause-found : goal.returns-clause-found
returns-clause-found c =
    position_from_yields_List (is_here c.args.identity.now) _ _ c.position.result c.position.ensures.ran (YieldsList-from_slice c.args.seats.now (cc)) (λ s b q k. search (rules, tests))
    ∙ position_from-zero (is_here c.args.identity.now) c.args.seats.now
