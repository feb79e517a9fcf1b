use Rattle.std.proofs.Common.{vec_items, ◌∙◌}
use Rattle.train.specs.Names.{text_of}
use Rattle.coach_order.proofs.Printed.{line_told, start_below}
use Rattle.coach_order.proofs.page.put_line.Goals as goal

pub returns : goal.returns
returns c =
    line_told (vec_items c.args.page.now) c.args.number c.args.vehicle.now.facing (text_of c.args.vehicle.now.name.bytes) c.as_bytes.result.now _ _ _ _
    (c.as_bytes.ensures.value ∙ c.in_ok-start.ensures.ok ∙ start_below c.args.number c.args.vehicle.now.facing) c.in_ok-extend_from_slice.ensures.items c.in_ok-extend_from_slice-2.ensures.items c.text_len.ensures.front c.in_ok-extend_from_slice-3.ensures.items
