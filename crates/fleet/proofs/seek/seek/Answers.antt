use Rattle.std.proofs.Common.{rules, ◌∙◌}
use Rattle.std.proofs.lemmas.Fn.{always_returns_same}
use Rattle.train.specs.Octets.{ranked}
use Rattle.fleet.specs.Halves.{searched}
use Rattle.fleet.specs.Rows.{identity_of}
use Rattle.fleet.proofs.seek.seek.Goals as goal

pub returns-clause-found : goal.returns-clause-found
returns-clause-found c =
    c.ok.ensures.value
    ∙ searched c.args.consists.now c.args.id.now c.requires c.binary_search_by.result c.binary_search_by.ensures.bound
    (c.binary_search_by.ensures.position (λ row. ranked (identity_of row) c.args.id.now) (always_returns_same _ _ _ (λ a r f' k. (search rules, search rules))))
