-- The consists of a book, one by one.
use Rattle.std.specs.Prelude.{ℕ, zero, suc, List, Some, None, Option}
use Rattle.std.specs.List.{slice_get}
use Rattle.train.specs.declared.identity.Identity.{Identity}
use Rattle.fleet.specs.Books.{Item}

abbrev pub identity_in : Option Item → Option Identity
identity_in None = None
identity_in (Some i) = Some i.identity

-- the identity of the k-th consist, counted from 1
abbrev pub identity_at : List Item → ℕ → Option Identity
identity_at is zero = None
identity_at is (suc k) = identity_in (slice_get is k)
