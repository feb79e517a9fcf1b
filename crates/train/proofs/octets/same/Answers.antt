use Rattle.std.proofs.Common.{false, sym, ap, ◌∙◌}
use Rattle.std.proofs.lemmas.Slice.Eq.{slice_eq-Decides, bytes_eq-Decides}
use Rattle.std.proofs.lemmas.Bool.Decides.{same_from_decides, Decides-eqb}
use Rattle.std.specs.Str.{bytes_eq}
use Rattle.train.specs.Octets.{tail_of}
use Rattle.train.proofs.Bytes.{nowhere}
use Rattle.train.proofs.octets.same.Goals as goal

pub returns : goal.returns
returns c =
    same_from_decides c.eq.result (bytes_eq c.args.a.now c.args.b.now)
    (slice_eq-Decides Decides-eqb c.args.a.now c.args.b.now c.eq.result c.eq.ensures)
    (bytes_eq-Decides c.args.a.now c.args.b.now)

pub returns-then-tail : goal.returns-then-tail
returns-then-tail c =
    same_from_decides false (bytes_eq c.args.a.now c.args.b.now)
    (nowhere, λ e. absurd (c.if-tail.true (c.tail.ensures ∙ ap tail_of e ∙ sym c.tail-then-b-eq16.ensures)))
    (bytes_eq-Decides c.args.a.now c.args.b.now)
