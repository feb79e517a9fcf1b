use Rattle.std.proofs.Common.{ℕ, get_or, sym, refl, ap, ◌∙◌, arith}
use Rattle.std.proofs.lemmas.List.{take_all}
use Rattle.sc32.specs.Checksum.{checksum, byte_step}
use Rattle.sc32.proofs.Feeds.{one_more}
use Rattle.sc32.proofs.over_bytes.Goals as goal

pub loop-byte-init : goal.loop-byte-init
unfolding checksum
loop-byte-init c = refl

pub loop-byte-preserved : goal.loop-byte-preserved
loop-byte-preserved c =
    let xs = c.args.bytes.now in
    let i = c.loop-byte.byte-index in
    c.byte_step-register.ensures ∙ ap (λ (r : ℕ). byte_step r (get_or xs i 0)) c.loop-byte.invariant ∙ sym (one_more c.args.seed xs i (omega arith))

pub returns : goal.returns
returns c =
    let xs = c.args.bytes.now in
    let i = c.loop-byte.byte-index in
    c.loop-byte.invariant ∙ ap (checksum c.args.seed) (take_all i xs (omega arith))
