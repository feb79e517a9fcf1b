use Rattle.std.proofs.Common.{rules, ◌≡◌, ◌-◌, ◌<◌, ◌+◌, [], ℕ, List, refl, length, get_or, ap, ◌∙◌, arith}
use Rattle.std.proofs.lemmas.Bool.Decides.{nat_tests}
use Rattle.fleet.specs.Books.{Item, name_at, count_of, entries_of, total_of, table_of}
use Rattle.fleet.specs.Entries.{length-rows}
use Rattle.fleet.specs.Readings.{length-listed}
use Rattle.fleet.specs.Means.{name_past, name_here, name_lent}
use Rattle.fleet.proofs.Holds.{held_is}
use Rattle.fleet.proofs.book.Book.name.Goals as goal

pub returns-in_err-row : goal.returns-in_err-row
returns-in_err-row c =
    let b = c.args.self.now in
    rw c.from_residual-in_err-row.ensures (
    ap (λ (is : List Item). name_at is c.args.k) (held_is b) ∙ name_past b.consists.now b.vehicles.now c.args.k b.sum (grind (arith, nat_tests)))

pub returns : goal.returns
returns c =
    let b = c.args.self.now in
    let e = held_is b in
    let k = ap length e in
    let l = length-listed b.consists.now b.vehicles.now in
    let at : c.in_ok-row.row.now ≡ get_or b.vehicles.now (c.args.k - 1) [] = search rules in
    let n : length b.vehicles.now ≡ total_of b.bytes.now = ap length b.listed ∙ length-rows 17 (total_of b.bytes.now) (table_of b.bytes.now) in
    let m : length b.consists.now ≡ count_of b.bytes.now = ap length b.parted ∙ length-rows 21 (count_of b.bytes.now) (entries_of b.bytes.now) in
    let o : c.in_ok-at.at + 1 ≡ c.args.k = grind (arith, nat_tests) in
    let h : c.in_ok-at.at < length b.vehicles.now = grind (arith, nat_tests) in
    record {
      name = ap (λ (is : List Item). name_at is c.args.k) e ∙ name_here b.consists.now b.vehicles.now c.args.k c.in_ok-row.row.now _ b.sum (λ z. omega arith) (omega arith) at refl;
      offset = omega arith;
      lends = name_lent b.bytes.now (table_of b.bytes.now) (count_of b.bytes.now) (total_of b.bytes.now) (c.args.k - 1) _ c.in_ok-row.row.now _ refl refl (omega arith) (omega arith) (at ∙ ap (λ (vs : List (List ℕ)). get_or vs (c.args.k - 1) []) b.listed) refl;
    }
