use Rattle.std.proofs.Common.{◌≡◌, ◌<◌, ◌⊎◌, sym, ◌∙◌, inl, inr, arith}
use Rattle.train.proofs.Names.{outside, unprinted, printed, name_rule_at}
use Rattle.train.proofs.name.well_formed.Goals as goal

pub returns-then-n-eq0 : goal.returns-then-n-eq0
returns-then-n-eq0 c =
    let bs = c.args.bytes.now in
    let n = c.text_len-n.result in
    let out : (n ≡ 0) ⊎ (15 < n) = elim c.then-n-eq0.either [ inl e ↦ inl e | inr h ↦ inr h.1 ] in
    let e = outside bs n c.text_len-n.ensures.value out in
    record { value = e; rule = name_rule_at bs _ e }

pub returns-then-all_printable : goal.returns-then-all_printable
returns-then-all_printable c =
    let bs = c.args.bytes.now in
    let n = c.text_len-n.result in
    let e = printed bs n c.text_len-n.ensures.value _ _ c.same.result (c.split_at.ensures.front ∙ c.text_len-n.ensures.front) c.split_at.ensures.back (omega arith) (omega arith)
    (sym c.if-all_printable.ensures) c.same.ensures in
    record { value = e; rule = name_rule_at bs _ e }

pub returns-else-all_printable : goal.returns-else-all_printable
returns-else-all_printable c =
    let bs = c.args.bytes.now in
    let n = c.text_len-n.result in
    let no = unprinted bs n c.text_len-n.ensures.value _ (c.split_at.ensures.front ∙ c.text_len-n.ensures.front) (sym c.if-all_printable.ensures) in
    let e = c.if-all_printable.false ∙ no in
    record { value = e; rule = name_rule_at bs _ e }
