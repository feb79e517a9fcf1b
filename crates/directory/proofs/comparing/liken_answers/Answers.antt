use Rattle.std.proofs.Common.{◌&&◌, take, ◌∙◌, ap₂}
use Rattle.std.specs.Str.{bytes_eq}
use Rattle.directory.specs.Compared.{ends_of}
use Rattle.directory.specs.Part.{leading_part}
use Rattle.directory.proofs.Likenesses.{front, both_written, likeness_told}
use Rattle.directory.proofs.comparing.liken_answers.Goals as goal

pub returns : goal.returns
returns c l s p q =
    let b = front c.in-Ok.n c.args.out.now in
    let d = front c.in-Ok-answer.m c.args.other.now in
    both_written l s _ _ c.in-Ok.n c.in-Ok-answer.m c.args.out.now c.args.other.now c.liken.result c.in-Ok.is c.in-Ok-answer.is
    (likeness_told l s (take c.in-Ok.n c.args.out.now) (take c.in-Ok-answer.m c.args.other.now) c.liken.result c.args.left.led c.args.right.led p q
    (c.liken.ensures.same ∙ ap₂ bytes_eq b d)
    (c.liken.ensures.ends ∙ ap₂ (λ u v. ends_of (c.args.left.led && c.args.right.led) (bytes_eq (leading_part u) (leading_part v))) b d))
