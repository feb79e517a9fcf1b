-- Numbers that a byte can hold.
use Rattle.std.specs.Prelude.{ℕ, ◌<◌, Bool, true, ◌&&◌, List, [], ◌∷◌, nat_lt}
use Rattle.std.specs.List.{AllByRecursion}

abbrev pub Bytes : List ℕ → Type 0
Bytes bs = AllByRecursion (λ b. b < 256) bs

-- the same as a test
abbrev pub bytes_in : List ℕ → Bool
bytes_in [] = true
bytes_in (b ∷ bs) = nat_lt b 256 && bytes_in bs
