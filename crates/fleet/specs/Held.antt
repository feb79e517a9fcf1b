-- What an opened book holds.
use Rattle.std.specs.Prelude.{◌≡◌, ℕ, ◌+◌, ◌-◌, ◌*◌, List, length, take, drop, Some}
use Rattle.fleet.specs.declared.book.Book.{Book}
use Rattle.fleet.specs.declared.book.NamePart.{NamePart}
use Rattle.fleet.specs.Books.{Item, fleet_of, name_at}

-- the bytes that were lent to it
abbrev pub lent : Book → List ℕ
lent b = b.bytes.now

abbrev pub held : Book → List Item
held b = fleet_of (lent b)

-- the k-th name, as the bytes of the book that hold it
pub record HandsOut (b : Book) (k : ℕ) (part : NamePart) : Type 0 where
  pub name : name_at (held b) k ≡ Some part.bytes.now
  pub offset : part.offset ≡ 6 + 21 * length (held b) + 17 * (k - 1)
  pub lends : part.bytes.now ≡ take 16 (drop part.offset (lent b))
