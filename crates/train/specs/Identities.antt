-- Identities and counters.
use Rattle.std.specs.Prelude.{ℕ, ◌^◌, Bool, not, ◌&&◌, List, [], ◌∷◌, length, ◌==◌, nat_lt}
use Rattle.std.specs.Str.{bytes_eq}
use Rattle.train.specs.declared.identity.Identity.{Identity}
use Rattle.train.specs.declared.name.Name.{Name}
use Rattle.train.specs.Octets.{below, zeros}
use Rattle.train.specs.Refusals.{Rule}

-- sixteen bytes, not all zero
abbrev pub is_identity : List ℕ → Bool
is_identity bs = length bs == 16 && not (bytes_eq bs zeros)

-- four bytes, not 0
abbrev pub is_counter : ℕ → Bool
is_counter n = nat_lt 0 n && nat_lt n (2 ^ 32)

abbrev pub same_identity : Identity → Identity → Bool
same_identity x y = bytes_eq x.bytes y.bytes

abbrev pub same_name : Name → Name → Bool
same_name x y = bytes_eq x.bytes y.bytes

-- the identity of the last of these entries; before the first no bytes, which stand below every identity
abbrev pub last_identity : {A : Type 0} → (A → List ℕ) → List A → List ℕ
last_identity of [] = []
last_identity of (x ∷ []) = of x
last_identity of (x ∷ y ∷ ys) = last_identity of (y ∷ ys)

-- an identity is not zero, and above the one before
abbrev pub rises : List ℕ → List ℕ → Bool
rises prior id = not (bytes_eq id zeros) && below prior id

abbrev pub ascending : {A : Type 0} → (A → List ℕ) → Rule A
ascending of before x = rises (last_identity of before) (of x)
