-- Numbers of two and of four bytes.
use Rattle.std.specs.Prelude.{◌≡◌, ℕ, ◌+◌, ◌*◌, ◌/◌, ◌%◌, ◌<◌, [], ◌∷◌}
use Rattle.std.proofs.Common.{arith}
use Rattle.fleet.specs.Books.{two, four}

pub two_of : (a b : ℕ) → b < 256 → two (a * 256 + b) ≡ a ∷ b ∷ []
two_of a b h =
    let p : (a * 256 + b) / 256 ≡ a = omega arith in
    let q : (a * 256 + b) % 256 ≡ b = omega arith in
    rw (p, q)

pub of_two : (n : ℕ) → (n / 256) * 256 + n % 256 ≡ n
of_two n = omega arith

pub four_of : (a b c d : ℕ) → b < 256 → c < 256 → d < 256 → four (a * 16777216 + b * 65536 + c * 256 + d) ≡ a ∷ b ∷ c ∷ d ∷ []
four_of a b c d h i j =
    let n = a * 16777216 + b * 65536 + c * 256 + d in
    let p : n / 16777216 ≡ a = omega arith in
    let q : n / 65536 % 256 ≡ b = omega arith in
    let r : n / 256 % 256 ≡ c = omega arith in
    let s : n % 256 ≡ d = omega arith in
    rw (p, q, r, s)

pub of_four : (n : ℕ) → (n / 16777216) * 16777216 + (n / 65536 % 256) * 65536 + (n / 256 % 256) * 256 + n % 256 ≡ n
of_four n = omega arith
