use Rattle.std.proofs.Common.{◌-◌, length}
use Rattle.fleet.specs.Held.{held}
use Rattle.coach_order.proofs.Coupled.{Coupling}
use Rattle.coach_order.proofs.coupling.couple_all.Given as goal

abbrev pub invariant-loop-identity : goal.invariant-loop-identity
invariant-loop-identity l = Coupling (held l.book) l.entries.items

abbrev pub decreases-loop-identity : goal.decreases-loop-identity
decreases-loop-identity l = length (held l.book) - length l.entries.items
