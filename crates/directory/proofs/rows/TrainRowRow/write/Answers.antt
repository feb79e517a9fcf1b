use Rattle.std.proofs.Common.{ℕ, [], ◌∷◌, refl, ap, ◌∙◌, arith}
use Rattle.std.proofs.lemmas.List.{length-append}
use Rattle.directory.proofs.Behind.{three}
use Rattle.directory.proofs.rows.TrainRowRow.write.Goals as goal

pub returns : goal.returns
returns c =
    let rest = ap (λ (f : ℕ). c.args.number ∷ f ∷ 0 ∷ 0 ∷ []) c.number.ensures in
    record {
      wrote = record {
        wrote =
            three c.args.out.now 16 4 4 c.copy_from_slice.ensures.after
            (c.copy_from_slice-2.ensures.after ∙ c.to_be_bytes-counter.ensures) (c.copy_from_slice-3.ensures.after ∙ rest) (omega arith) refl;
        long = simp length-append (omega arith);
        fits = c.requires;
      };
      long = refl;
    }
