use Rattle.std.proofs.Common.{length, refl, ap, ◌∙◌}
use Rattle.bench.specs.Calls.{run}
use Rattle.bench.specs.Facts.{after_all}
use Rattle.directory.specs.Compared.{side}
use Rattle.directory.specs.Law.{Side}
use Rattle.directory.specs.Operation.{leads}
use Rattle.directory.proofs.Seen.{answered}
use Rattle.directory.proofs.Sides.{led_decides}
use Rattle.directory.proofs.comparing.compose_run.Goals as goal

pub returns : goal.returns
returns g c =
    let s : Side = side c.args.calls.now (g.F.Meant.meaning c.args.fleet.now) c.args.out.now in
    let e = c.play.ensures.facts ∙ ap (λ f. after_all f (run c.args.calls.now)) c.new-bench.ensures in
    record {
      answered = answered s _ c.compose.result c.args.out.now _ e refl c.compose.ensures.answer c.compose.ensures.wrote;
      led = led_decides s c.claims_standing.result (c.claims_standing.ensures ∙ ap (λ f. length (leads f.claims f.formation)) e);
    }
