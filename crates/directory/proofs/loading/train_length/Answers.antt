use Rattle.std.proofs.Common.{rules, ◌≡◌, length, sum_by, sym, ◌∙◌}
use Rattle.fleet.specs.Fleets.{vehicles_of}
use Rattle.directory.proofs.Loads.{length-train}
use Rattle.directory.proofs.loading.train_length.Goals as goal

pub returns : goal.returns
returns g c claims =
    let m = g.F.Meant.meaning c.args.fleet.now in
    let e : c.sum.result ≡ sum_by (λ e. length (vehicles_of (m e.identity))) c.args.formation.now = search rules in
    e ∙ sym (length-train m claims c.args.formation.now)
