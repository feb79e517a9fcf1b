use Rattle.std.proofs.Common.{◌≡◌, ◌++◌, ◌∷◌, [], map, length, take, ap, ◌∙◌, ap₂, refl, sym, arith}
use Rattle.std.proofs.lemmas.Fn.{says_at}
use Rattle.std.proofs.lemmas.List.{map_more, take_all, take_more_set}
use Rattle.fleet_list.proofs.book_reader.read_rows.Goals as goal

pub loop-i-preserved : goal.loop-i-preserved
loop-i-preserved g c of gives =
    take_more_set c.loop-i.table c.loop-i.i c.form.result (omega (arith, c.loop-i-test.true, c.loop-i.auto.table))
    ∙ ap₂ (λ xs y. xs ++ y ∷ []) (c.loop-i.invariant of gives) (gives _ _ (says_at g.F.Fn c.form.ensures refl) ∙ ap of c.index-rows-i.is)
    ∙ sym (map_more of c.args.rows.now c.loop-i.i _ (omega (arith, c.loop-i-test.true, c.requires.long)))

pub returns : goal.returns
returns g c of gives =
    let n : c.loop-i.i ≡ length c.args.table.now = omega (arith, c.loop-i-test.false, c.loop-i.auto.i-end) in
    sym (take_all c.loop-i.i c.loop-i.table (omega (arith, n, c.loop-i.auto.table))) ∙ c.loop-i.invariant of gives ∙ ap (λ k. map of (take k c.args.rows.now)) n
