use Rattle.std.proofs.Common.{ℕ, List, [], get_or, sym, ap, ◌∙◌, arith, refl}
use Rattle.std.proofs.lemmas.List.{take_all}
use Rattle.std.specs.List.{concat}
use Rattle.sc32.specs.Checksum.{checksum}
use Rattle.sc32.proofs.Feeds.{one_word_more}
use Rattle.sc32.proofs.over_words.Goals as goal

pub loop-word-init : goal.loop-word-init
unfolding checksum
loop-word-init c = refl

pub loop-word-preserved : goal.loop-word-preserved
loop-word-preserved c =
    let ws = c.args.words.now in
    let i = c.loop-word.word-index in
    c.four_step-register.ensures ∙ ap (λ (r : ℕ). checksum r (get_or ws i [])) c.loop-word.invariant ∙ sym (one_word_more c.args.seed ws i (omega arith))

pub returns : goal.returns
returns c =
    let ws = c.args.words.now in
    c.loop-word.invariant ∙ ap (λ (parts : List (List ℕ)). checksum c.args.seed (concat parts)) (take_all c.loop-word.word-index ws (omega arith))
