use Rattle.std.proofs.Common.{rules, tests, sym, ap, ◌∙◌}
use Rattle.std.proofs.lemmas.Iterator.{YieldsList-from_slice}
use Rattle.std.proofs.lemmas.Iterator.Search.{position_from_yields_List}
use Rattle.train.specs.Identities.{same_identity}
use Rattle.directory.proofs.Places.{numbered, numbered-position}
use Rattle.directory.proofs.orders.consist_number.Goals as goal

pub returns-in-Some-clause-value : goal.returns-in-Some-clause-value
returns-in-Some-clause-value c =
    ap numbered (sym c.in-Some.is
    ∙ position_from_yields_List (λ e. same_identity c.args.identity.now e.identity) _ _ c.position.result c.position.ensures.ran (YieldsList-from_slice c.args.formation.now (cc)) (λ x b q k. search (rules, tests)))
    ∙ numbered-position (λ e. same_identity c.args.identity.now e.identity) c.args.formation.now

pub returns-in-None-clause-value : goal.returns-in-None-clause-value
returns-in-None-clause-value c =
    ap numbered (sym c.in-None.is
    ∙ position_from_yields_List (λ e. same_identity c.args.identity.now e.identity) _ _ c.position.result c.position.ensures.ran (YieldsList-from_slice c.args.formation.now (cc)) (λ x b q k. search (rules, tests)))
    ∙ numbered-position (λ e. same_identity c.args.identity.now e.identity) c.args.formation.now
