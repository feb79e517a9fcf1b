-- What a text is decides what import answers.
use Rattle.std.proofs.Common.{ℕ, List, length, Some, Ok, Err, Result, sym, ap, ◌∙◌, inl, inr, arith}
use Rattle.train.specs.declared.refusal.Part.TheVariants.{Text}
use Rattle.train.specs.declared.refusal.Refusal.{Refusal}
use Rattle.train.specs.Refusals.{refusal}
use Rattle.fleet_list.specs.Imports.{list_checks, Imported, Decided}
use Rattle.fleet_list.proofs.Back.{apart, broken_no_list, broken_once}
use Rattle.fleet_list.proofs.Lawful.{passes}

pub decided : (t before after : List ℕ) (r : Result ℕ Refusal) → Imported t before after r → Decided t before r
decided t before after (Ok n) h = record {
  breaks = λ f b. absurd (broken_no_list t f b h.items h.lines h.is);
  lists = λ is l e.
      let same = apart h.items is h.lines l (sym h.is ∙ e) in
      sym (ap (λ z. refusal Text (list_checks z (length before))) (sym same) ∙ passes h.items (length before) h.fleet (omega (arith, h.wrote.long, h.wrote.fits)));
}
decided t before after (Err f) (k, inl b) = record {
  breaks = λ g d. ap (λ z. Some z) (broken_once t f g b d);
  lists = λ is l e. absurd (broken_no_list t f b is l e);
}
decided t before after (Err f) (k, inr u) = record {
  breaks = λ g d. absurd (broken_no_list t g d u.items u.lines u.is);
  lists = λ is l e. sym u.refused ∙ ap (λ z. refusal Text (list_checks z (length before))) (apart u.items is u.lines l (sym u.is ∙ e));
}
