use Rattle.std.proofs.Common.{ℕ, [], ◌∷◌, refl, ap, ◌∙◌, arith}
use Rattle.std.proofs.lemmas.List.{length-append}
use Rattle.directory.proofs.Behind.{two}
use Rattle.directory.proofs.rows.ConsistRowRow.write.Goals as goal

pub returns : goal.returns
returns c =
    let rest = ap (λ (f : ℕ). c.args.number ∷ f ∷ c.args.self.now.number ∷ 0 ∷ []) c.number.ensures in
    record {
      wrote = record {
        wrote = two c.args.out.now 16 4 c.copy_from_slice.ensures.after (c.copy_from_slice-2.ensures.after ∙ rest) (omega arith);
        long = simp length-append (omega arith);
        fits = c.requires;
      };
      long = refl;
    }
