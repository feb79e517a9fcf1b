use Rattle.std.proofs.Common.{◌≡◌, ◌*◌, take}
use Rattle.directory.specs.Sections.{rows}
use Rattle.directory.specs.Written.{Written}
use Rattle.directory.proofs.rows.write_rows.Given as goal

abbrev pub invariant-loop-i : goal.invariant-loop-i
invariant-loop-i g l = Written (rows g.T.Row.row 1 (take l.i l.rows)) l.initial.out l.at l.out × (l.at ≡ g.T.Row.size * l.i)
