use Rattle.std.proofs.Common.{◌∙◌}
use Rattle.linkage.proofs.Rooms.{list_either, list_breaks, list_lists, unlined_told}
use Rattle.linkage.proofs.lists.yoltsjer_check_list.Goals as goal

pub returns : goal.returns
returns c = record {
  result = c.with_room-checked.result;
  either = list_either c.args.list.now c.import_list.new.out c.import_list.result c.import_list.ensures.answer;
  breaks = λ f b. c.with_room-checked.ensures ∙ list_breaks c.args.list.now c.import_list.result c.import_list.ensures.decided f b;
  lists = λ is l e.
      c.with_room-checked.ensures
      ∙ list_lists c.args.list.now c.import_list.new.out c.import_list.result c.import_list.ensures.answer c.import_list.ensures.decided is l e;
  told = record { status = c.tell_length.ensures.told ∙ unlined_told c.with_room-checked.result; answer = c.tell_length.ensures.answer };
}
