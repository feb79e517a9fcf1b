use Rattle.std.proofs.Common.{rules, tests}
use Rattle.std.proofs.lemmas.Iterator.{YieldsList-from_slice}
use Rattle.std.proofs.lemmas.Iterator.Search.{position_from_yields_List}
use Rattle.train.specs.Identities.{same_identity}
use Rattle.bench.proofs.Places.{found_place}
use Rattle.bench.proofs.state.questions.place_of.Goals as goal

pub returns : goal.returns
returns c =
    let x = c.args.identity.now in
    let es = c.args.formation.now in
    found_place x es c.position.result
    (position_from_yields_List (λ e. same_identity x e.identity) _ _ c.position.result c.position.ensures.ran (YieldsList-from_slice es (cc)) (λ e b q k. search (rules, tests)))
