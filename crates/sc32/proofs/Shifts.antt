-- What a low part, too low to reach the top bit, does to the register: it moves left, and nothing else.
-- Assumes nothing.
use Rattle.std.proofs.Common.{◌≡◌, ℕ, zero, suc, ◌*◌, ◌/◌, ◌%◌, ◌^◌, ◌<◌, Bool, true, false, cond, eqb, sym, refl, ap, ◌∙◌, add-zero, mul_assoc, pow-suc, mul-one, arith, pow_pos}
use lib.Bits.{bit_xor, xor_shr, xor_mod, xor_zero_r, xor_block, xor_assoc, xor_comm, xor_shifted}
use Rattle.std.proofs.lemmas.Nat.{shr_split}
use Rattle.sc32.specs.Checksum.{bit_step, bit_steps, byte_step}

pub xor-shl : (k a b : ℕ) → bit_xor (a * 2 ^ k) (b * 2 ^ k) ≡ bit_xor a b * 2 ^ k
xor-shl k a b = simp add-zero at (xor_block k a b 0 0 (pow_pos k) (pow_pos k))

pub xor_swap : (a b c : ℕ) → bit_xor (bit_xor a b) c ≡ bit_xor (bit_xor a c) b
xor_swap a b c = xor_assoc a b c ∙ ap (bit_xor a) (xor_comm b c) ∙ sym (xor_assoc a c b)

pub top_low : (a l : ℕ) → l < 2 ^ 31 → bit_xor a l / 2 ^ 31 ≡ a / 2 ^ 31
top_low a l h =
    let z : l / 2 ^ 31 ≡ 0 = omega arith in
    xor_shr a l 31 ∙ ap (bit_xor (a / 2 ^ 31)) z ∙ xor_zero_r (a / 2 ^ 31)

pub rest_low : (a l : ℕ) → l < 2 ^ 31 → bit_xor a l * 2 % 2 ^ 32 ≡ bit_xor (a * 2 % 2 ^ 32) (l * 2)
rest_low a l h =
    let z : l * 2 % 2 ^ 32 ≡ l * 2 = omega arith in
    ap (λ (n : ℕ). n % 2 ^ 32) (sym (xor-shl 1 a l)) ∙ xor_mod (a * 2) (l * 2) 32 ∙ ap (bit_xor (a * 2 % 2 ^ 32)) z

out : (t : Bool) (a l p : ℕ) → cond t (bit_xor a l) (bit_xor (bit_xor a l) p) ≡ bit_xor (cond t a (bit_xor a p)) l
out true a l p = refl
out false a l p = xor_swap a l p

pub step_low : (a l : ℕ) → l < 2 ^ 31 → bit_step (bit_xor a l) ≡ bit_xor (bit_step a) (l * 2)
step_low a l h =
    rw (top_low a l h, rest_low a l h) (out (eqb (a / 2 ^ 31) 0) (a * 2 % 2 ^ 32) (l * 2) 0xF4AC_FB13)

pub steps_low : (n a l : ℕ) → l * 2 ^ n < 2 ^ 32 → bit_steps n (bit_xor a l) ≡ bit_xor (bit_steps n a) (l * 2 ^ n)
unfolding bit_steps
steps_low zero a l h = ap (bit_xor a) (sym (mul-one l))
steps_low (suc n) a l h =
    let d : l * 2 ^ suc n ≡ l * 2 ^ n * 2 = ap (λ (m : ℕ). l * m) (pow-suc 2 n) ∙ sym (mul_assoc l (2 ^ n) 2) in
    let low : l * 2 ^ n < 2 ^ 31 = omega (arith, d) in
    let less : l * 2 ^ n < 2 ^ 32 = omega arith in
    ap bit_step (steps_low n a l less) ∙ step_low (bit_steps n a) (l * 2 ^ n) low ∙ ap (bit_xor (bit_step (bit_steps n a))) (sym d)

-- the step by a table: eight bits on of the top byte, and the rest moved left
pub by_table : (r b : ℕ) → r < 2 ^ 32 → byte_step r b ≡ bit_xor (r * 2 ^ 8 % 2 ^ 32) (bit_steps 8 (bit_xor (r / 2 ^ 24) b * 2 ^ 24))
by_table r b h =
    let split : r ≡ bit_xor (r / 2 ^ 24 * 2 ^ 24) (r % 2 ^ 24) = sym (xor_shifted (r / 2 ^ 24) 24 (r % 2 ^ 24) (omega arith) ∙ shr_split r 24) in
    let moved : bit_xor r (b * 2 ^ 24) ≡ bit_xor (bit_xor (r / 2 ^ 24) b * 2 ^ 24) (r % 2 ^ 24) =
    ap (λ (x : ℕ). bit_xor x (b * 2 ^ 24)) split ∙ xor_swap (r / 2 ^ 24 * 2 ^ 24) (r % 2 ^ 24) (b * 2 ^ 24)
    ∙ ap (λ (x : ℕ). bit_xor x (r % 2 ^ 24)) (xor-shl 24 (r / 2 ^ 24) b) in
    let low : r % 2 ^ 24 * 2 ^ 8 ≡ r * 2 ^ 8 % 2 ^ 32 = omega arith in
    ap (bit_steps 8) moved
    ∙ steps_low 8 (bit_xor (r / 2 ^ 24) b * 2 ^ 24) (r % 2 ^ 24) (omega arith)
    ∙ ap (bit_xor (bit_steps 8 (bit_xor (r / 2 ^ 24) b * 2 ^ 24))) low
    ∙ xor_comm (bit_steps 8 (bit_xor (r / 2 ^ 24) b * 2 ^ 24)) (r * 2 ^ 8 % 2 ^ 32)
