use Rattle.std.proofs.Common.{sym}
use Rattle.console.specs.declared.pieces.Standing.TheVariants.{Outside}
use Rattle.console.proofs.Cuts.{before_none}
use Rattle.console.proofs.pieces.end_of.Goals as goal

pub loop-i-init : goal.loop-i-init
loop-i-init c = sym (before_none Outside c.args.line.now)
