use Rattle.std.proofs.Common.{◌≡◌, map, take}
use Rattle.directory.specs.Rows.{train_row_of}
use Rattle.directory.proofs.tables.train_rows.Given as goal

abbrev pub invariant-loop-entry : goal.invariant-loop-entry
invariant-loop-entry g l = l.table.items ≡ map (train_row_of (g.F.Meant.meaning l.fleet)) (take l.entry-index l.formation)
