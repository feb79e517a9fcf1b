use Rattle.std.proofs.Common.{rules, tests, ◌∙◌}
use Rattle.std.proofs.lemmas.Iterator.{YieldsList-from_slice}
use Rattle.std.proofs.lemmas.Iterator.Search.{any_from_yields_List}
use Rattle.train.specs.Identities.{same_name}
use Rattle.directory.proofs.Places.{list_any-names}
use Rattle.directory.proofs.orders.has_name.Goals as goal

pub returns : goal.returns
returns c =
    any_from_yields_List (λ d. same_name c.args.name.now d.name) _ _ _ c.any.ensures.ran (YieldsList-from_slice c.args.train.now (cc)) (λ x b q k. search (rules, tests))
    ∙ list_any-names (same_name c.args.name.now) c.args.train.now
