-- The facts that a bench shows.
use Rattle.bench.specs.declared.state.Bench.{Bench}
use Rattle.bench.specs.Facts.{Facts}
use Rattle.bench.specs.Table.{kept}

abbrev pub shown : Bench → Facts
shown b = record {
  etb = b.etb;
  formation = b.formation.items;
  claims = kept b.formation.items b.claims;
  confirmed = b.confirmed.items;
}
