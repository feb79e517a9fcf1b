use Rattle.std.proofs.Common.{ap, ◌∙◌}
use Rattle.train.specs.Refusals.{refusal_of}
use Rattle.linkage.specs.Told.{status_of, answer_of, unlined}
use Rattle.linkage.proofs.Rooms.{book_freed, unlined_told}
use Rattle.linkage.proofs.lists.yoltsjer_check_book.Goals as goal

pub returns : goal.returns
returns c =
    let e = c.with_room.ensures ∙ book_freed c.args.book.now c.export_book.new.out c.export_book.result c.length_of-checked.result c.export_book.ensures c.length_of-checked.ensures in
    record {
      status = c.tell_length.ensures.told ∙ unlined_told c.with_room.result ∙ ap (λ r. status_of (refusal_of (unlined r))) e;
      answer = c.tell_length.ensures.answer ∙ ap (λ r. answer_of (unlined r)) e;
    }
