-- One entry more, in a loop that looks for an entry; and a list behind a copy.
use Rattle.std.proofs.Common.{◌≡◌, ℕ, ◌+◌, ◌<◌, ◌≤◌, Bool, true, false, List, ◌++◌, length, get_or, take, drop, Some, None, refl}
use Rattle.std.proofs.lemmas.List.{drop_more, drop_all, take_at}
use Rattle.fleet.specs.Seeks.{find}

module _ {A : Type 0} (test : A → Bool) (xs : List A) (i n : ℕ) where
  pub find_past : (d : A) → i < length xs → test (get_or xs i d) ≡ false → find test n (drop i xs) ≡ find test (n + 1) (drop (i + 1) xs)
  find_past d h e = rw (drop_more xs i d, e)

  pub find_here : (d : A) → i < length xs → test (get_or xs i d) ≡ true → find test n (drop i xs) ≡ Some n
  find_here d h e = rw (drop_more xs i d, e)

  pub find_none : length xs ≤ i → find test n (drop i xs) ≡ None
  find_none h = rw drop_all

pub front_copied : {A : Type 0} (part rest from : List A) → part ≡ from → take (length from) (part ++ rest) ≡ from
front_copied part rest from e = rw e (take_at from rest (length from) refl)
