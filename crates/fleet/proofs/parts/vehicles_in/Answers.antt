use Rattle.std.proofs.Common.{rules, ◌≡◌, sum_by, ◌∙◌}
use Rattle.fleet.specs.Entries.{sizes_is}
use Rattle.fleet.specs.Rows.{size_of}
use Rattle.fleet.proofs.parts.vehicles_in.Goals as goal

pub returns : goal.returns
returns c =
    let e : c.sum.result ≡ sum_by size_of c.args.consists.now = search rules in
    e ∙ sizes_is c.args.consists.now
