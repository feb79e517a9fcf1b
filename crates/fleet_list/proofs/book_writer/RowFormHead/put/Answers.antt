use Rattle.std.proofs.Common.{[], ◌∷◌, ◌++◌, length, refl, ap, ◌∙◌, append_assoc, arith}
use Rattle.fleet_list.proofs.Behind.{lend, then_byte, same_text}
use Rattle.fleet_list.proofs.BookRows.{four_is, head_long}
use Rattle.fleet_list.proofs.book_writer.RowFormHead.put.Goals as goal

pub returns : goal.returns
returns c =
    let w = c.put_bytes-at.ensures in
    let x = c.put_bytes-at-2.ensures in
    let h = c.args.head.now in
    same_text
    (append_assoc h.identity.bytes c.to_be_bytes.result (h.count ∷ []) ∙ ap (λ z. h.identity.bytes ++ (z ++ h.count ∷ [])) (c.to_be_bytes.ensures ∙ four_is h.counter (omega arith)))
    (then_byte (lend w x refl) h.count (omega (arith, head_long h, c.requires, w.long, x.long, ap length c.to_be_bytes.ensures)))
