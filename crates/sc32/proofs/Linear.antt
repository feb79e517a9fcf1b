-- The checksum's steps keep sums without carry: what two registers become, xored, is what their xor becomes.
-- Assumes nothing.
use Rattle.std.proofs.Common.{◌≡◌, ℕ, zero, suc, ◌+◌, ◌*◌, ◌/◌, ◌%◌, ◌^◌, ◌<◌, Bool, true, false, cond, eqb, sym, refl, ap, ◌∙◌, suc-add, zero-add, arith}
use lib.Bits.{bit_xor, xor_shr, xor_mod, xor_zero_r, xor_assoc, xor_comm, xor_self, xor_lt}
use Rattle.sc32.specs.Checksum.{bit_step, bit_steps, byte_step}
use Rattle.sc32.proofs.Shifts.{xor-shl, xor_swap, steps_low}

pub steps_add : (n m r : ℕ) → bit_steps n (bit_steps m r) ≡ bit_steps (n + m) r
unfolding bit_steps
steps_add zero m r = ap (λ (k : ℕ). bit_steps k r) (sym (zero-add m))
steps_add (suc n) m r = ap bit_step (steps_add n m r) ∙ ap (λ (k : ℕ). bit_steps k r) (sym (suc-add n m))

low_lt : (t : Bool) (a : ℕ) → a < 2 ^ 32 → cond t a (bit_xor a 0xF4AC_FB13) < 2 ^ 32
low_lt true a h = h
low_lt false a h = xor_lt 32 a 0xF4AC_FB13 h (omega arith)

pub steps_lt : (n r : ℕ) → r < 2 ^ 32 → bit_steps n r < 2 ^ 32
unfolding bit_steps
steps_lt zero r h = h
steps_lt (suc n) r h = low_lt (eqb (bit_steps n r / 2 ^ 31) 0) (bit_steps n r * 2 % 2 ^ 32) (omega arith)

both : (a b p : ℕ) → bit_xor a b ≡ bit_xor (bit_xor a p) (bit_xor b p)
both a b p =
    sym (xor_assoc a p (bit_xor b p)
    ∙ ap (bit_xor a) (xor_comm p (bit_xor b p) ∙ xor_assoc b p p ∙ ap (bit_xor b) (xor_self p) ∙ xor_zero_r b))

cases : (s t a b p : ℕ) → s < 2 → t < 2
    → cond (eqb (bit_xor s t) 0) (bit_xor a b) (bit_xor (bit_xor a b) p) ≡ bit_xor (cond (eqb s 0) a (bit_xor a p)) (cond (eqb t 0) b (bit_xor b p))
cases zero zero a b p hs ht = refl
cases zero (suc zero) a b p hs ht = xor_assoc a b p
cases (suc zero) zero a b p hs ht = xor_swap a b p
cases (suc zero) (suc zero) a b p hs ht = both a b p
cases (suc (suc s)) t a b p hs ht = absurd (omega arith)
cases zero (suc (suc t)) a b p hs ht = absurd (omega arith)
cases (suc zero) (suc (suc t)) a b p hs ht = absurd (omega arith)

pub step_linear : (a b : ℕ) → a < 2 ^ 32 → b < 2 ^ 32 → bit_step (bit_xor a b) ≡ bit_xor (bit_step a) (bit_step b)
step_linear a b ha hb =
    let rest : bit_xor a b * 2 % 2 ^ 32 ≡ bit_xor (a * 2 % 2 ^ 32) (b * 2 % 2 ^ 32) =
    ap (λ (n : ℕ). n % 2 ^ 32) (sym (xor-shl 1 a b)) ∙ xor_mod (a * 2) (b * 2) 32 in
    rw (xor_shr a b 31, rest) (cases (a / 2 ^ 31) (b / 2 ^ 31) (a * 2 % 2 ^ 32) (b * 2 % 2 ^ 32) 0xF4AC_FB13 (omega arith) (omega arith))

pub steps_linear : (n a b : ℕ) → a < 2 ^ 32 → b < 2 ^ 32 → bit_steps n (bit_xor a b) ≡ bit_xor (bit_steps n a) (bit_steps n b)
unfolding bit_steps
steps_linear zero a b ha hb = refl
steps_linear (suc n) a b ha hb =
    ap bit_step (steps_linear n a b ha hb) ∙ step_linear (bit_steps n a) (bit_steps n b) (steps_lt n a ha) (steps_lt n b hb)

-- one more byte, put in before the steps that were made
pub feed : (n y l b : ℕ) → l * 2 ^ n ≡ b * 2 ^ 24 → b < 256 → byte_step (bit_steps n y) b ≡ bit_steps (8 + n) (bit_xor y l)
feed n y l b e h =
    ap (λ (x : ℕ). bit_steps 8 (bit_xor (bit_steps n y) x)) (sym e)
    ∙ ap (bit_steps 8) (sym (steps_low n y l (omega (arith, e))))
    ∙ steps_add 8 n (bit_xor y l)
