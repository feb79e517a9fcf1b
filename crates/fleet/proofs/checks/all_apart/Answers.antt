use Rattle.std.proofs.Common.{[], get_or, refl, ◌∙◌, arith}
use Rattle.fleet.specs.Entries.{sizes_past}
use Rattle.fleet.proofs.checks.all_apart.Goals as goal

pub split_at-requires : goal.split_at-requires
split_at-requires c =
    let s = sizes_past c.args.consists.now c.loop-row.rest.now c.loop-row.from c.loop-row.row-index c.from.result (get_or c.args.consists.now c.loop-row.row-index []) c.loop-row-test.true refl (c.from.ensures ∙ c.size_of.ensures) in
    omega arith
