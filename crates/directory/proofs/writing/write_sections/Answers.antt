use Rattle.std.proofs.Common.{refl, append_assoc, arith}
use Rattle.directory.specs.Rows.{train_row, consist_row, vehicle_row}
use Rattle.directory.specs.Sections.{section}
use Rattle.directory.proofs.Behind.{lend, same_text}
use Rattle.directory.proofs.writing.write_sections.Goals as goal

pub returns : goal.returns
returns c =
    let one = c.write_section-train.ensures in
    let two = c.write_section-at.ensures in
    let three = c.write_section-at-2.ensures in
    record {
      wrote =
          same_text (append_assoc (section train_row c.args.trains.now) (section consist_row c.args.consists.now) (section vehicle_row c.args.vehicles.now))
          (lend (lend one.wrote two.wrote refl) three.wrote refl);
      first = one.wrote.long;
      inside = omega arith;
      sum = omega (arith, one.long, two.long, three.long);
    }
