-- One name of a confirmed list, walked along the train's names.
use Rattle.std.specs.Prelude.{ℕ, ◌+◌, cond, ◌&&◌, List, [], length, Some, None, Option, nat_lt, slice_index_or}
use Rattle.train.specs.declared.name.Name.{Name}
use Rattle.train.specs.Identities.{same_name}
use Rattle.train.specs.Refusals.{among}

-- the place behind this name, where the train's names have been met up to `at`; none where the name is the train's and not next
abbrev pub next_place : Name → List Name → ℕ → Option ℕ
next_place n held at =
    cond (among same_name n held) (cond (nat_lt at (length held) && same_name n (slice_index_or held at (record { bytes = [] }))) (Some (at + 1)) None) (Some at)
