use Rattle.std.proofs.Common.{◌≡◌, ℕ, ◌+◌, ◌≤◌, List, length, sym, refl, ap, arith}
use Rattle.std.specs.List.{flat_map}
use Rattle.train.specs.declared.entries.Vehicle.{Vehicle}
use Rattle.fleet_list.specs.declared.tables.Head.{Head}
use Rattle.fleet.specs.Books.{book_of, vehicle_row}
use Rattle.fleet_list.specs.Entries.{head_row}
use Rattle.fleet_list.specs.Tables.{gathered, counts}
use Rattle.fleet_list.proofs.Behind.{lend, same_text, same_length}
use Rattle.fleet_list.proofs.BookRows.{book_parts, parts_long}
use Rattle.fleet_list.proofs.Loops.{tail_room}
use Rattle.fleet_list.proofs.book_writer.put_book.Goals as goal

-- what there must be room for
sized : (hs : List Head) (vs : List Vehicle) (room : ℕ) → counts hs ≡ length vs → length (book_of (gathered hs vs)) ≤ room → 6 + length (flat_map head_row hs) + length (flat_map vehicle_row vs) ≤ room
sized hs vs room e l = omega (arith, ap length (book_parts hs vs e), parts_long hs vs)

pub put_each-at-requires : goal.put_each-at-requires
put_each-at-requires c =
    let l = sized c.args.consists.heads.now c.args.consists.vehicles.now _ c.args.consists.sums c.requires.room in
    let a = lend c.put_bytes-at.ensures c.put_count-at.ensures refl in
    tail_room _ (c.put_bytes-at.result + c.put_count-at.result) _ (omega (arith, c.put_bytes-at.ensures.long, c.put_count-at.ensures.long, same_length a))

pub put_count-at-requires-2-clause-room : goal.put_count-at-requires-2-clause-room
put_count-at-requires-2-clause-room c =
    let l = sized c.args.consists.heads.now c.args.consists.vehicles.now _ c.args.consists.sums c.requires.room in
    let a = lend (lend c.put_bytes-at.ensures c.put_count-at.ensures refl) c.put_each-at.ensures refl in
    tail_room _ (c.put_bytes-at.result + c.put_count-at.result + c.put_each-at.result) _
    (omega (arith, c.put_bytes-at.ensures.long, c.put_count-at.ensures.long, c.put_each-at.ensures.long, same_length a))

pub put_each-at-requires-2 : goal.put_each-at-requires-2
put_each-at-requires-2 c =
    let l = sized c.args.consists.heads.now c.args.consists.vehicles.now _ c.args.consists.sums c.requires.room in
    let a = lend (lend (lend c.put_bytes-at.ensures c.put_count-at.ensures refl) c.put_each-at.ensures refl) c.put_count-at-2.ensures refl in
    tail_room _ (c.put_bytes-at.result + c.put_count-at.result + c.put_each-at.result + c.put_count-at-2.result) _
    (omega (arith, c.put_bytes-at.ensures.long, c.put_count-at.ensures.long, c.put_each-at.ensures.long, c.put_count-at-2.ensures.long, same_length a))

pub returns : goal.returns
returns c =
    same_text (sym (book_parts c.args.consists.heads.now c.args.consists.vehicles.now c.args.consists.sums))
    (lend (lend (lend (lend c.put_bytes-at.ensures c.put_count-at.ensures refl) c.put_each-at.ensures refl) c.put_count-at-2.ensures refl) c.put_each-at-2.ensures refl)
