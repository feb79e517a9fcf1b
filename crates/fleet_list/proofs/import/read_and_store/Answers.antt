use Rattle.std.proofs.Common.{sym, subst}
use Rattle.std.specs.List.{AllByRecursion}
use Rattle.fleet_list.specs.Lists.{IsLine}
use Rattle.fleet_list.proofs.Ready.{items, imported}
use Rattle.fleet_list.proofs.import.read_and_store.Goals as goal

pub store-requires-clause-lines : goal.store-requires-clause-lines
store-requires-clause-lines c =
    let t = c.read_list.new.tables in
    let g = c.in_ok-read_list.ensures in
    subst (AllByRecursion IsLine) (sym (items c.args.text.now t.heads t.vehicles t.lines t.total g c.if-tables-gt-LINES.false c.if-tables-gt-VEHICLES.false _ _ c.consists.ensures.heads c.consists.ensures.vehicles)) g.good

pub returns : goal.returns
returns c =
    let t = c.read_list.new.tables in
    imported c.args.text.now c.args.out.now c.store.new.out t.heads t.vehicles t.lines t.total c.store.result _ _ c.in_ok-read_list.ensures c.if-tables-gt-LINES.false c.if-tables-gt-VEHICLES.false
    c.consists.ensures.heads c.consists.ensures.vehicles c.store.ensures
