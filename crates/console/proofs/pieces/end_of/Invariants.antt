use Rattle.std.proofs.Common.{◌≡◌, take, drop}
use Rattle.console.specs.Fields.{before, fields_from}
use Rattle.console.specs.declared.pieces.Standing.TheVariants.{Outside}
use Rattle.console.proofs.pieces.end_of.Given as goal

abbrev pub invariant-loop-i : goal.invariant-loop-i
invariant-loop-i l = fields_from Outside l.line ≡ before (take l.i l.line) (fields_from l.standing (drop l.i l.line))
