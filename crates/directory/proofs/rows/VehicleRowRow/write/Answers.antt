use Rattle.std.proofs.Common.{refl, ◌∙◌, arith}
use Rattle.std.proofs.lemmas.List.{length-append}
use Rattle.directory.proofs.Behind.{two}
use Rattle.directory.proofs.Sections.{eight}
use Rattle.directory.proofs.rows.VehicleRowRow.write.Goals as goal

pub returns : goal.returns
returns c =
    let s = c.args.self.now in
    record {
      wrote = record {
        wrote =
            two c.args.out.now 16 8 c.copy_from_slice.ensures.after
            (c.copy_from_slice-2.ensures.after ∙ eight c.args.number s.number s.run _ _ _ _ _ _ c.lead_byte.ensures c.number.ensures c.number-2.ensures) (omega arith);
        long = simp length-append (omega arith);
        fits = c.requires;
      };
      long = refl;
    }
