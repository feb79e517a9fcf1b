use Rattle.std.proofs.Common.{◌+◌, ◌*◌, length, Some, sym, refl, ap, ◌∙◌, arith}
use Rattle.std.proofs.lemmas.Result.{err_from_is_err_and}
use Rattle.fleet_list.proofs.Stores.{need_is, at_rise, at_apart, at_room, at_none}
use Rattle.fleet_list.proofs.import.store.Goals as goal

pub returns-in_err-identities_rise : goal.returns-in_err-identities_rise
returns-in_err-identities_rise c =
    let p = err_from_is_err_and c.from_residual.result c.from_residual.ensures.1 in
    rw (p.1, p.2) (at_rise c.args.consists.heads.now c.args.consists.vehicles.now (length c.args.out.now) _ c.in_err-identities_rise.ensures, refl)

pub returns-in_err-names_apart : goal.returns-in_err-names_apart
returns-in_err-names_apart c =
    let p = err_from_is_err_and c.from_residual-in_err-names_apart.result c.from_residual-in_err-names_apart.ensures.1 in
    rw (p.1, p.2)
    (at_apart c.args.consists.heads.now c.args.consists.vehicles.now (length c.args.out.now) _ c.in_ok-identities_rise.ensures c.in_err-names_apart.ensures, refl)

pub returns-then-out-need : goal.returns-then-out-need
returns-then-out-need c = (
  at_room c.args.consists.heads.now c.args.consists.vehicles.now (length c.args.out.now) (6 + 21 * length c.args.consists.heads.now + 17 * length c.args.consists.vehicles.now)
      c.in_ok-identities_rise.ensures c.in_ok-names_apart.ensures (need_is c.args.consists.heads.now c.args.consists.vehicles.now c.args.consists.sums c.requires.lines) c.if-out-need.true
      ∙ ap (λ z. Some z) (sym c.at.ensures),
  refl,
)

pub put_book-requires-clause-room : goal.put_book-requires-clause-room
put_book-requires-clause-room c = let e = need_is c.args.consists.heads.now c.args.consists.vehicles.now c.args.consists.sums c.requires.lines in omega (arith, c.if-out-need.false)

pub returns : goal.returns
returns c = (
  at_none c.args.consists.heads.now c.args.consists.vehicles.now (length c.args.out.now) (6 + 21 * length c.args.consists.heads.now + 17 * length c.args.consists.vehicles.now)
      c.in_ok-identities_rise.ensures c.in_ok-names_apart.ensures (need_is c.args.consists.heads.now c.args.consists.vehicles.now c.args.consists.sums c.requires.lines) c.if-out-need.false,
  c.put_book.ensures,
)
