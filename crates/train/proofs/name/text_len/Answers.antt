use Rattle.std.proofs.Common.{rules, tests, ◌==◌, ℕ, length, take, ap, ◌∙◌}
use Rattle.std.proofs.lemmas.Iterator.{YieldsList-from_slice}
use Rattle.std.proofs.lemmas.Iterator.Search.{position_from_yields_List}
use Rattle.std.specs.Option.{unwrap_or}
use Rattle.train.proofs.Names.{first_zero_or_len, text_of-take_length}
use Rattle.train.proofs.name.text_len.Goals as goal

pub returns-clause-value : goal.returns-clause-value
returns-clause-value c =
    c.unwrap_or.ensures
    ∙ ap (λ found. unwrap_or found (length c.args.bytes.now))
    (position_from_yields_List (λ b. b == 0) _ _ _ c.position.ensures.ran (YieldsList-from_slice c.args.bytes.now (cc)) (λ x b q k. search (rules, tests)))
    ∙ first_zero_or_len c.args.bytes.now

pub returns-clause-front : goal.returns-clause-front
returns-clause-front c = ap (λ (n : ℕ). take n c.args.bytes.now) (returns-clause-value c) ∙ text_of-take_length c.args.bytes.now
