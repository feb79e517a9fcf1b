-- What an opened book holds, by its entries.
use Rattle.std.proofs.Common.{◌≡◌, sym, ap₂}
use Rattle.fleet.specs.declared.book.Book.{Book}
use Rattle.fleet.specs.Books.{listed}
use Rattle.fleet.specs.Held.{held}

pub held_is : (b : Book) → held b ≡ listed b.consists.now b.vehicles.now
held_is b = ap₂ listed (sym b.parted) (sym b.listed)
