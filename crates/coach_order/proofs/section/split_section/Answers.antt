use Rattle.std.proofs.Common.{◌*◌, ◌≤◌, get_or, take, drop, length, length-drop, ap, ◌∙◌, arith}
use Rattle.std.proofs.lemmas.List.{take_rest}
use Rattle.coach_order.proofs.Readings.{rows_cut, past_cut}
use Rattle.coach_order.proofs.section.split_section.Goals as goal

pub returns-clause-rows : goal.returns-clause-rows
returns-clause-rows g c =
    let bs = c.args.bytes.now in
    let d = length-drop 1 bs in
    let w = c.requires.whole in
    let fits : g.row.N * get_or bs 0 0 ≤ length (drop 1 bs) = omega arith in
    rows_cut g.row.N (get_or bs 0 0) (drop 1 bs) _ _ c.requires.wide fits (c.split_at.ensures.front ∙ ap (take (g.row.N * get_or bs 0 0)) (take_rest bs 1)) c.as_chunks.ensures.front

pub returns-clause-past : goal.returns-clause-past
returns-clause-past g c =
    let bs = c.args.bytes.now in
    c.split_at.ensures.back ∙ ap (drop (g.row.N * get_or bs 0 0)) (take_rest bs 1) ∙ past_cut g.row.N bs
