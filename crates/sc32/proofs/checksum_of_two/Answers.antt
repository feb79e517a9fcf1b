use Rattle.std.proofs.Common.{ℕ, sym, ap, ◌∙◌}
use Rattle.sc32.specs.Checksum.{checksum}
use Rattle.sc32.proofs.Feeds.{two_parts}
use Rattle.sc32.proofs.checksum_of_two.Goals as goal

pub returns : goal.returns
returns c =
    let first = c.args.first.now in
    let second = c.args.second.now in
    record {
      value =
          c.sc32-2.ensures.value ∙ ap (λ (r : ℕ). checksum r second) c.sc32.ensures.value
          ∙ sym (two_parts c.args.seed first second);
    }
