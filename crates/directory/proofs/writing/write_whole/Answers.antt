use Rattle.std.proofs.Common.{◌++◌, refl, arith}
use Rattle.directory.specs.Rows.{train_row, consist_row, vehicle_row}
use Rattle.directory.specs.Sections.{section}
use Rattle.directory.proofs.Whole.{whole_written}
use Rattle.directory.proofs.writing.write_whole.Goals as goal

pub returns : goal.returns
returns c =
    let told = c.write_sections-lengths.ensures in
    record {
      wrote =
          whole_written c.args.out.now c.write_sections-lengths.new.out (section train_row c.args.trains.now) (section consist_row c.args.consists.now ++ section vehicle_row c.args.vehicles.now)
          _ c.write_sections-lengths.result.train c.write_sections-lengths.result.all refl (omega (arith, c.requires.room)) told.wrote told.first told.inside
          c.args.head c.sc32-train_counter.result c.sc32-operational_counter.result _ c.sc32-train_counter.ensures.value c.sc32-operational_counter.ensures.value c.write_header.ensures;
      sum = omega (arith, told.sum);
    }
