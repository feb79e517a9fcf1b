use Rattle.std.proofs.Common.{◌≡◌, ◌≤◌, ◌+◌, length, drop}
use Rattle.train.specs.declared.refusal.Part.TheVariants.{Book}
use Rattle.train.specs.Refusals.{refusal}
use Rattle.fleet.specs.Rows.{sizes, apart_checks}
use Rattle.fleet.proofs.checks.all_apart.Given as goal

abbrev pub invariant-loop-row : goal.invariant-loop-row
invariant-loop-row l =
    (refusal Book (apart_checks 0 l.consists l.vehicles) ≡ refusal Book (apart_checks l.from (drop l.row-index l.consists) l.rest))
    × (sizes (drop l.row-index l.consists) ≡ length l.rest)
    × (l.from + length l.rest ≤ 2000)
