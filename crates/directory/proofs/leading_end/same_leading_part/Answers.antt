use Rattle.std.proofs.Common.{◌≡◌, ℕ, Bool, ◌&&◌, List, get_or, sym, ap, ◌∙◌, ap₂, eq-eqb}
use Rattle.std.specs.Str.{bytes_eq}
use Rattle.directory.specs.Part.{thin_section, consists, vehicles, leading_part, Sections}
use Rattle.directory.proofs.Thin.{leading_same}
use Rattle.directory.proofs.leading_end.same_leading_part.Goals as goal

-- behind an equal status the sections decide
module _ (l r : List ℕ) (h : Sections l) (g : Sections r) (e : get_or l 3 0 ≡ get_or r 3 0) where
  abbrev consists_same : Bool
  consists_same = bytes_eq (thin_section 18 1 (consists l)) (thin_section 18 1 (consists r))

  abbrev vehicles_same : Bool
  vehicles_same = bytes_eq (thin_section 19 4 (vehicles l)) (thin_section 19 4 (vehicles r))

  sections : bytes_eq (leading_part l) (leading_part r) ≡ (consists_same && vehicles_same)
  sections = leading_same l r h g ∙ ap (λ z. z && (consists_same && vehicles_same)) (eq-eqb (get_or l 3 0) (get_or r 3 0) e)

pub returns-then-not-same_section : goal.returns-then-not-same_section
returns-then-not-same_section c =
    let l = c.args.left.now in
    let r = c.args.right.now in
    let e = c.if-not-same_section.ensures ∙ ap₂ (λ u v. bytes_eq (thin_section 18 1 u) (thin_section 18 1 v)) c.operational.ensures c.operational-2.ensures in
    sym (sections l r c.requires.left c.requires.right c.if-left-right.false ∙ ap (λ z. z && vehicles_same l r c.requires.left c.requires.right c.if-left-right.false) (sym e))

pub returns : goal.returns
returns c =
    let l = c.args.left.now in
    let r = c.args.right.now in
    let e = c.if-not-same_section.ensures ∙ ap₂ (λ u v. bytes_eq (thin_section 18 1 u) (thin_section 18 1 v)) c.operational.ensures c.operational-2.ensures in
    let d = c.same_section-2.ensures ∙ ap₂ (λ u v. bytes_eq (thin_section 19 4 u) (thin_section 19 4 v)) c.vehicles.ensures c.vehicles-2.ensures in
    d ∙ sym (sections l r c.requires.left c.requires.right c.if-left-right.false ∙ ap (λ z. z && vehicles_same l r c.requires.left c.requires.right c.if-left-right.false) (sym e))
