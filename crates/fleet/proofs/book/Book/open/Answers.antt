use Rattle.std.proofs.Common.{◌<◌, is_some, sym, ap, arith}
use Rattle.std.proofs.ByRecursion.{All-from_get_or}
use Rattle.fleet.specs.Bytes.{Bytes}
use Rattle.fleet.specs.Heads.{on_refusal}
use Rattle.fleet.specs.Whole.{passed, parts_pass, parts_bytes, opened, refused}
use Rattle.fleet.proofs.book.Book.open.Goals as goal

pub returns-in_err-consists-clause-exactly : goal.returns-in_err-consists-clause-exactly
returns-in_err-consists-clause-exactly c =
    let x = c.in_err-consists.field-0.0 in
    on_refusal c.from_residual.result x _ _ c.from_residual.ensures.1 (λ _. refused c.args.bytes.now x c.in_err-consists.ensures.answer)

pub invariant_of-self : goal.invariant_of-self
invariant_of-self c =
    let bs = c.args.bytes.now in
    let y : Bytes bs = All-from_get_or (λ b. b < 256) bs 0 (λ i _. omega (arith, c.type_inv.bytes i)) in
    let q = c.in_ok-consists.field-0 in
    let p = c.in_ok-consists.ensures.parts in
    let e = parts_pass bs q.consists.now q.vehicles.now p (sym c.in_ok-consists.ensures.answer) in
    record {
      parted = p.consists_are;
      listed = p.vehicles_are;
      long = p.entries_long;
      tall = p.table_long;
      few = p.count_fits;
      small = p.total_fits;
      sum = (passed q.consists.now _ q.vehicles.now e).sum;
      sound = ap is_some e;
      octets = parts_bytes bs y;
    }

pub returns-clause-exactly : goal.returns-clause-exactly
returns-clause-exactly c =
    let bs = c.args.bytes.now in
    let y : Bytes bs = All-from_get_or (λ b. b < 256) bs 0 (λ i _. omega (arith, c.type_inv.bytes i)) in
    opened bs y (sym c.in_ok-consists.ensures.answer)
