use Rattle.std.proofs.Common.{rules, ◌≡◌, ◌+◌, ◌*◌, ◌-◌, ◌∙◌, length, get_or, take, drop, refl, arith, length-take-le}
use Rattle.fleet.specs.Books.{count_of, total_of, vehicle_of, entries_of, table_of}
use Rattle.fleet_list.specs.Entries.{head_of}
use Rattle.fleet_list.proofs.Loads.{loaded, front_read, total_is, heads_cut, vehicles_cut}
use Rattle.fleet_list.proofs.book_reader.read_book.Goals as goal

pub returns : goal.returns
returns c =
    let b = c.args.book.now in
    let n = count_of b in
    let entries = c.split_at.result.0.now in
    let tail = c.split_at.result.1.now in
    let ee = c.split_at.ensures.front in
    let et = c.split_at.ensures.back in
    let m : _ ≡ total_of b = total_is b entries tail c.requires ee et in
    let hl : length (take (n - 0) (drop 0 c.args.tables.now.heads)) ≡ n - 0 = length-take-le (n - 0) c.args.tables.now.heads (omega (arith, c.requires.few)) in
    let total = get_or tail 0 0 * 256 + get_or tail 1 0 in
    let vl : length (take (total - 0) (drop 0 c.args.tables.now.vehicles)) ≡ total - 0 = length-take-le (total - 0) c.args.tables.now.vehicles (omega (arith, c.requires.small, m)) in
    loaded b _ _ _ _ c.requires refl m
    (front_read 21 n n _ head_of (entries_of b) c.as_chunks.result.0.now c.read_rows.new.table _ refl (omega (arith, hl)) (c.as_chunks.ensures.front ∙ heads_cut b entries tail c.requires ee et)
    (c.read_rows.ensures head_of (search rules)))
    (front_read 17 (total_of b) total _ vehicle_of (table_of b) c.as_chunks-2.result.0.now c.read_rows-2.new.table _ m (omega (arith, vl)) (c.as_chunks-2.ensures.front ∙ vehicles_cut b entries tail c.requires ee et)
    (c.read_rows-2.ensures vehicle_of (search rules)))
