use Rattle.std.proofs.Common.{length, sym, arith}
use Rattle.train.specs.declared.refusal.Part.TheVariants.{Book}
use Rattle.fleet_list.specs.Lists.{list_text}
use Rattle.fleet_list.specs.Tables.{gathered}
use Rattle.fleet_list.proofs.Gathers.{length-gathered}
use Rattle.fleet_list.proofs.Stores.{enough}
use Rattle.fleet_list.proofs.export.show.Goals as goal

pub returns : goal.returns
returns c = (
  enough Book (length (list_text (gathered c.args.consists.heads.now c.args.consists.vehicles.now))) (length c.args.out.now) (omega (arith, c.list_size-need.ensures, c.if-out-need.false)),
  record { wrote = c.put_list-bytes.ensures; lines = sym (length-gathered c.args.consists.heads.now c.args.consists.vehicles.now) },
)
