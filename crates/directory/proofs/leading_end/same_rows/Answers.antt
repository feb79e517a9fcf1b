use Rattle.std.proofs.Common.{◌≡◌, ℕ, suc, ◌+◌, ◌-◌, ◌*◌, ◌≤◌, false, true, List, length, sym, ap₂, ◌∙◌, subst, arith}
use Rattle.std.proofs.lemmas.List.{take_rest}
use Rattle.std.specs.Str.{bytes_eq}
use Rattle.directory.specs.Part.{thinned}
use Rattle.directory.proofs.Thin.{rows_on, rows_left}
use Rattle.directory.proofs.leading_end.same_rows.Goals as goal

pub returns-then-not-same_row : goal.returns-then-not-same_row
returns-then-not-same_row c =
    let a = c.args.row.ahead in
    let b = c.args.row.behind in
    let z : c.args.count - c.loop.counter ≡ suc (c.args.count - (c.loop.counter + 1)) = omega arith in
    sym (c.loop.invariant.0
    ∙ rows_on a b (c.args.count - c.loop.counter) (c.args.count - (c.loop.counter + 1)) c.loop.left.now c.loop.right.now false z c.loop.invariant.1 c.loop.invariant.2 c.if-not-same_row.ensures)

pub loop-preserved : goal.loop-preserved
loop-preserved c =
    let a = c.args.row.ahead in
    let b = c.args.row.behind in
    let size = a + 1 + b in
    let n = c.args.count - (c.loop.counter + 1) in
    let l = c.loop.left.now in
    let r = c.loop.right.now in
    let z : c.args.count - c.loop.counter ≡ suc n = omega arith in (
      c.loop.invariant.0 ∙ rows_on a b (c.args.count - c.loop.counter) n l r true z c.loop.invariant.1 c.loop.invariant.2 c.if-not-same_row.ensures
          ∙ sym (ap₂ (λ u v. bytes_eq (thinned a b n u) (thinned a b n v)) (take_rest l size) (take_rest r size)),
      subst (λ (bs : List ℕ). size * n ≤ length bs) (sym (take_rest l size)) (rows_left a b (c.args.count - c.loop.counter) n l z c.loop.invariant.1),
      subst (λ (bs : List ℕ). size * n ≤ length bs) (sym (take_rest r size)) (rows_left a b (c.args.count - c.loop.counter) n r z c.loop.invariant.2),
    )
