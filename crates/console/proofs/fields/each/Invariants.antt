use Rattle.std.proofs.Common.{◌≡◌, ◌+◌, ℕ, [], Ok, drop, length, slice_get, slice_index_or, IfSome}
use Rattle.std.specs.Fn.{FnReturnsAt}
use Rattle.console.specs.Fields.{fields_in}
use Rattle.console.proofs.fields.each.Given as goal

abbrev pub invariant-loop-field : goal.invariant-loop-field
invariant-loop-field g l =
    (goal.iterator-loop-field g).can_next l.field-iterator
    × (goal.iterator-loop-field g).is_finite l.field-iterator
    × (fields_in l.field-iterator ≡ drop (length l.entries.items) (fields_in l.fn.fields))
    × (length l.entries.items + length (fields_in l.field-iterator) ≡ length (fields_in l.fn.fields))
    × ((k : ℕ) → IfSome (slice_get l.entries.items k) (λ entry. FnReturnsAt g.R.Fn l.read (slice_index_or (fields_in l.fn.fields) k []) (Ok entry)))
