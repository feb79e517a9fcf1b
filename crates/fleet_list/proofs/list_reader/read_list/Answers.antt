use Rattle.std.proofs.Common.{arith}
use Rattle.fleet_list.proofs.Rows.{passed_more}
use Rattle.fleet_list.proofs.list_reader.read_list.Goals as goal

pub loop-cursor-preserved : goal.loop-cursor-preserved
loop-cursor-preserved c =
    passed_more c.args.text.now c.loop-cursor.cursor c.read_line.new.cursor c.next_line.new.self c.loop-cursor.tables.heads c.loop-cursor.tables.vehicles c.read_line.new.room c.loop-cursor.tables.lines c.loop-cursor.tables.total
    c.min.result c.min-from.result _ c.in_ok-head.head c.min.ensures c.min-from.ensures c.loop-cursor.invariant
    (omega arith) (omega arith) c.in_ok-head.ensures.count c.in_ok-head.ensures.answer
    c.next_line.ensures.text c.next_line.ensures.at c.next_line.ensures.line
