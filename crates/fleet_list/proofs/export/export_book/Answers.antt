use Rattle.std.proofs.Common.{[], ◌∷◌, length, sym, refl, ap, subst, arith}
use Rattle.std.proofs.lemmas.Result.{err_from_is_err_and}
use Rattle.train.specs.declared.refusal.Part.TheVariants.{Book}
use Rattle.fleet.specs.Books.{book_checks, fleet_of, IsBook}
use Rattle.fleet.specs.Heads.{first_refused}
use Rattle.fleet_list.specs.Imports.{room_for}
use Rattle.fleet_list.specs.Lists.{list_text}
use Rattle.fleet_list.proofs.Long.{list_small}
use Rattle.fleet_list.proofs.Shows.{tables, exported}
use Rattle.fleet_list.proofs.export.export_book.Goals as goal
use Rattle.fleet_list.proofs.export.export_book.Goals.{In_ok-open}

pub returns-in_err-open : goal.returns-in_err-open
returns-in_err-open c =
    let p = err_from_is_err_and c.from_residual.result c.from_residual.ensures.1 in
    rw (p.1, p.2)
    (sym (first_refused Book (book_checks c.args.book.now) (room_for (length (list_text (fleet_of c.args.book.now))) (length c.args.out.now) ∷ []) _ c.in_err-open.ensures.answer), refl)

-- the bytes that were opened are the book of what they are read as
the_book : (c : In_ok-open) → IsBook c.args.book.now (fleet_of c.args.book.now)
the_book c = subst (λ z. IsBook c.args.book.now (fleet_of z)) c.in_ok-open.ensures.after c.in_ok-open.ensures.exactly.book

pub show-requires : goal.show-requires
show-requires c =
    let t = c.read_book.new.tables in
    let e = tables c.args.book.now t.heads t.vehicles t.lines t.total c.read_book.ensures _ _ c.consists.ensures.heads c.consists.ensures.vehicles in
    omega (arith, list_small (fleet_of c.args.book.now) (the_book (goal.at.show-requires c).In_ok-open).fleet, ap (λ z. length (list_text z)) e)

pub returns : goal.returns
returns c =
    let t = c.read_book.new.tables in
    exported c.args.book.now t.heads t.vehicles t.lines t.total c.read_book.ensures _ _ c.consists.ensures.heads c.consists.ensures.vehicles c.args.out.now c.show.new.out c.show.result
    c.in_ok-open.ensures.answer (the_book (goal.at.returns c).In_ok-open) c.show.ensures
