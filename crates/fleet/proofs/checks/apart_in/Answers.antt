use Rattle.std.proofs.Common.{rules, ◌≤◌, length, arith}
use Rattle.std.specs.Str.{bytes_eq}
use Rattle.train.specs.declared.refusal.Part.TheVariants.{Book}
use Rattle.train.specs.declared.refusal.Reason.TheVariants.{Repeated}
use Rattle.train.specs.Refusals.{fresh, by}
use Rattle.fleet.specs.Entries.{breach_within}
use Rattle.fleet.specs.Rows.{name_of}
use Rattle.fleet.proofs.checks.apart_in.Goals as goal

pub overflow_add-from : goal.overflow_add-from
overflow_add-from c =
    let l : c.in-Err-At.place ≤ length c.args.vehicles.now =
    breach_within Book (fresh (by bytes_eq name_of)) Repeated c.args.vehicles.now c.in-Err-At.field-0 c.in-Err-At.place c.in-Err-At.ensures (search rules) in
    omega arith
