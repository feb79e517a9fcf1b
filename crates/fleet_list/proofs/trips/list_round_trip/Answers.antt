use Rattle.std.proofs.Common.{◌-◌, arith}
use Rattle.std.proofs.lemmas.Result.{err_from_is_err_and}
use Rattle.fleet_list.proofs.Journeys.{list_back, list_short}
use Rattle.fleet_list.proofs.trips.list_round_trip.Goals as goal

pub returns-in_err-bytes : goal.returns-in_err-bytes
returns-in_err-bytes c =
    let p = err_from_is_err_and c.from_residual-in_err-bytes.result c.from_residual-in_err-bytes.ensures.1 in
    rw (p.1, p.2)
    (list_short c.args.text.now c.args.book.now c.import_list.new.out c.args.back.now c.export_book.new.out c.in_ok-len.len (c.in_ok-len.len - 0) (omega arith)
    c.in_ok-len.ensures.answer _ c.in_err-bytes.ensures)

pub returns : goal.returns
returns c =
    list_back c.args.text.now c.args.book.now c.import_list.new.out c.args.back.now c.export_book.new.out c.in_ok-len.len (c.in_ok-len.len - 0) (omega arith)
    c.in_ok-len.ensures.answer (c.in_ok-bytes.bytes, c.in_ok-bytes._lines) c.in_ok-bytes.ensures
