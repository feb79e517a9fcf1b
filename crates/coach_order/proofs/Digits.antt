-- What `{:02}` writes of a number below 100.
use Rattle.std.proofs.Common.{◌≡◌, ℕ, ◌-◌, ◌/◌, ◌%◌, ◌^◌, ◌<◌, ◌≤◌, Bool, true, false, leb, [], decimal, refl, arith}
use Rattle.std.specs.Fmt.{padded_integral, format_spec, char_count}
use Rattle.std.proofs.lemmas.Bool.{leb-true, leb-false}
use Rattle.std.proofs.lemmas.Fmt.{decimal_digit, decimal_step}
use Rattle.coach_order.specs.Pages.{two_digits}

pub two_digits_of : (n : ℕ) → n < 100 → padded_integral (format_spec 32 0 4 2 (2 ^ 64 - 1)) false [] (decimal n) ≡ two_digits n
unfolding padded_integral char_count
two_digits_of n small = by (leb 10 n) refl
  where
    by : (b : Bool) → leb 10 n ≡ b → padded_integral (format_spec 32 0 4 2 (2 ^ 64 - 1)) false [] (decimal n) ≡ two_digits n
    by true e =
        let two : 10 ≤ n = leb-true 10 n e in
        let high : n / 10 % 10 ≡ n / 10 = omega arith in
        let below : n / 10 < 10 = omega arith in
        let step = decimal_step n two (omega arith) in
        let front = decimal_digit (n / 10) below in
        rw (step, front, high)
    by false e =
        let one : n < 10 = leb-false 10 n e in
        let high : n / 10 % 10 ≡ 0 = omega arith in
        let low : n % 10 ≡ n = omega arith in
        rw (decimal_digit n one, high, low)
