use Rattle.std.proofs.Common.{is_some, ap, ◌∙◌}
use Rattle.fleet.proofs.Found.{last_found, last_present}
use Rattle.fleet.proofs.questions.last_vehicle.Goals as goal

pub returns : goal.returns
returns g c =
    let o = g.F.Meant.meaning c.args.fleet.now c.args.identity.now in
    let e = c.in_ok-found.ensures in
    let last = c.vehicle.ensures ∙ last_found o c.in_ok-found.found e in
    record {
      last = last;
      present = ap is_some last ∙ last_present o c.in_ok-found.found (g.F.Meant.lawful c.args.fleet.now c.args.identity.now) e;
    }
