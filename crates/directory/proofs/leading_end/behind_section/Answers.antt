use Rattle.std.proofs.Common.{◌+◌, ◌*◌, get_or, sym, ◌∙◌}
use Rattle.std.proofs.lemmas.List.{take_rest}
use Rattle.directory.proofs.Thin.{past_drop}
use Rattle.directory.proofs.leading_end.behind_section.Goals as goal

pub returns : goal.returns
returns c =
    let bs = c.args.bytes.now in
    take_rest bs (1 + c.args.size * get_or bs 0 0) ∙ sym (past_drop c.args.size bs)
