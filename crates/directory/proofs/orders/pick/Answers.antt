use Rattle.std.proofs.Common.{rules, tests, sym, ap, ◌∙◌}
use Rattle.std.proofs.lemmas.Iterator.{YieldsList-from_slice}
use Rattle.std.proofs.lemmas.Iterator.Search.{find_from_yields_List}
use Rattle.std.specs.Option.{option_map}
use Rattle.train.specs.Identities.{same_name}
use Rattle.directory.proofs.Places.{found_or, pick_is}
use Rattle.directory.proofs.orders.pick.Goals as goal

pub returns-in-Some : goal.returns-in-Some
returns-in-Some c =
    let n = c.args.name.now in
    ap (found_or n) (ap (option_map (λ x. x.now)) (sym c.in-Some.is)
    ∙ find_from_yields_List (λ d. same_name n d.name) _ _ c.find.result c.find.ensures.ran (YieldsList-from_slice c.args.train.now (cc)) (λ x b q k. search (rules, tests)))
    ∙ pick_is n c.args.train.now

pub returns-in-None : goal.returns-in-None
returns-in-None c =
    let n = c.args.name.now in
    c.inserted.ensures
    ∙ ap (found_or n) (ap (option_map (λ x. x.now)) (sym c.in-None.is)
    ∙ find_from_yields_List (λ d. same_name n d.name) _ _ c.find.result c.find.ensures.ran (YieldsList-from_slice c.args.train.now (cc)) (λ x b q k. search (rules, tests)))
    ∙ pick_is n c.args.train.now
