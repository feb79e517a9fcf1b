use Rattle.std.proofs.Common.{◌-◌, ◌<◌, arith}
use Rattle.std.specs.List.{AllByRecursion}
use Rattle.std.proofs.ByRecursion.{All-from_get_or}
use Rattle.std.proofs.lemmas.Result.{err_from_is_err_and}
use Rattle.fleet_list.proofs.Journeys.{book_back, book_short}
use Rattle.fleet_list.proofs.trips.book_round_trip.Goals as goal

pub returns-in_err-len : goal.returns-in_err-len
returns-in_err-len c =
    let p = err_from_is_err_and c.from_residual-in_err-len.result c.from_residual-in_err-len.ensures.1 in
    let y : AllByRecursion (λ b. b < 256) c.args.book.now = All-from_get_or (λ b. b < 256) c.args.book.now 0 (λ i _. omega (arith, c.type_inv.book i)) in
    let x = c.in_ok-bytes.ensures in
    let i = c.in_err-len.ensures in
    rw (p.1, p.2)
    (book_short c.args.book.now c.args.text.now c.export_book.new.out c.args.back.now c.import_list.new.out y (c.in_ok-bytes.bytes, c.in_ok-bytes._lines)
    (c.in_ok-bytes.bytes - 0) (omega arith) x.1 x.2 _ i.answer.0 i.decided)

pub returns : goal.returns
returns c =
    let y : AllByRecursion (λ b. b < 256) c.args.book.now = All-from_get_or (λ b. b < 256) c.args.book.now 0 (λ i _. omega (arith, c.type_inv.book i)) in
    let x = c.in_ok-bytes.ensures in
    book_back c.args.book.now c.args.text.now c.export_book.new.out c.args.back.now c.import_list.new.out y (c.in_ok-bytes.bytes, c.in_ok-bytes._lines)
    (c.in_ok-bytes.bytes - 0) (omega arith) x.1 x.2 c.in_ok-len.len c.in_ok-len.ensures.answer
