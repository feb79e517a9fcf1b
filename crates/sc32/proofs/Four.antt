-- Four bytes at once: each has its own table.
-- Assumes nothing.
use Rattle.std.proofs.Common.{◌≡◌, ℕ, ◌+◌, ◌*◌, ◌/◌, ◌%◌, ◌^◌, ◌<◌, List, length, get_or, w32, sym, refl, ap, ◌∙◌, arith}
use Rattle.std.specs.Int.{to_be_bytes}
use lib.Bits.{bit_xor, xor_assoc, xor_zero_l, xor_lt, xor_shifted}
use Rattle.sc32.specs.Checksum.{bit_steps, byte_step, checksum}
use Rattle.sc32.proofs.Shifts.{xor-shl, xor_swap, steps_low}
use Rattle.sc32.proofs.Feeds.{word_fed}
use Rattle.sc32.proofs.Linear.{steps_add, steps_linear, feed}

-- n steps that only move the register, and m more
moved : (m n l t : ℕ) → bit_steps n 0 ≡ 0 → l * 2 ^ n ≡ t → t < 2 ^ 32 → bit_steps (m + n) l ≡ bit_steps m t
moved m n l t z e h =
    sym (steps_add m n l)
    ∙ ap (bit_steps m) (
    ap (bit_steps n) (sym (xor_zero_l l)) ∙ steps_low n 0 l (omega (arith, e)) ∙ ap (λ (x : ℕ). bit_xor x (l * 2 ^ n)) z ∙ xor_zero_l (l * 2 ^ n) ∙ e)

zero8 : bit_steps 8 0 ≡ 0
unfolding bit_steps
zero8 = refl

zero16 : bit_steps 16 0 ≡ 0
unfolding bit_steps
zero16 = refl

zero24 : bit_steps 24 0 ≡ 0
unfolding bit_steps
zero24 = refl

shuffled : (a b c d p q r s : ℕ)
    → bit_xor (bit_xor (bit_xor (bit_xor (bit_xor a (bit_xor b (bit_xor c d))) p) q) r) s ≡ bit_xor (bit_xor a p) (bit_xor (bit_xor b q) (bit_xor (bit_xor c r) (bit_xor d s)))
shuffled a b c d p q r s =
    let one = xor_swap a (bit_xor b (bit_xor c d)) p in
    let two = xor_assoc (bit_xor a p) (bit_xor b (bit_xor c d)) q in
    let three = xor_swap b (bit_xor c d) q in
    let four = xor_assoc (bit_xor a p) (bit_xor (bit_xor b q) (bit_xor c d)) r in
    let five = xor_assoc (bit_xor b q) (bit_xor c d) r in
    let six = xor_swap c d r in
    let seven = xor_assoc (bit_xor a p) (bit_xor (bit_xor b q) (bit_xor (bit_xor c r) d)) s in
    let eight = xor_assoc (bit_xor b q) (bit_xor (bit_xor c r) d) s in
    let nine = xor_assoc (bit_xor c r) d s in
    cc

bytes : (r : ℕ) → r ≡ bit_xor (r / 2 ^ 24 * 2 ^ 24) (bit_xor (r / 2 ^ 16 % 256 * 2 ^ 16) (bit_xor (r / 2 ^ 8 % 256 * 2 ^ 8) (r % 256)))
bytes r =
    let c = r / 2 ^ 8 % 256 in
    let b = r / 2 ^ 16 % 256 in
    let a = r / 2 ^ 24 in
    let low : bit_xor (c * 2 ^ 8) (r % 256) ≡ c * 2 ^ 8 + r % 256 = xor_shifted c 8 (r % 256) (omega arith) in
    let mid : bit_xor (b * 2 ^ 16) (c * 2 ^ 8 + r % 256) ≡ b * 2 ^ 16 + (c * 2 ^ 8 + r % 256) = xor_shifted b 16 (c * 2 ^ 8 + r % 256) (omega arith) in
    let high : bit_xor (a * 2 ^ 24) (b * 2 ^ 16 + (c * 2 ^ 8 + r % 256)) ≡ a * 2 ^ 24 + (b * 2 ^ 16 + (c * 2 ^ 8 + r % 256)) =
    xor_shifted a 24 (b * 2 ^ 16 + (c * 2 ^ 8 + r % 256)) (omega arith) in
    let sum : a * 2 ^ 24 + (b * 2 ^ 16 + (c * 2 ^ 8 + r % 256)) ≡ r = omega arith in
    sym (ap (λ (x : ℕ). bit_xor (a * 2 ^ 24) (bit_xor (b * 2 ^ 16) x)) low ∙ ap (bit_xor (a * 2 ^ 24)) mid ∙ high ∙ sum)

gathered : (r p q s t : ℕ) → p < 256 → q < 256 → s < 256 → t < 256
    → byte_step (byte_step (byte_step (byte_step r p) q) s) t ≡ bit_steps 32 (bit_xor (bit_xor (bit_xor (bit_xor r (p * 2 ^ 24)) (q * 2 ^ 16)) (s * 2 ^ 8)) t)
gathered r p q s t hp hq hs ht =
    let y = bit_xor r (p * 2 ^ 24) in
    let one : byte_step (bit_steps 8 y) q ≡ bit_steps 16 (bit_xor y (q * 2 ^ 16)) = feed 8 y (q * 2 ^ 16) q (omega arith) hq in
    let two : byte_step (bit_steps 16 (bit_xor y (q * 2 ^ 16))) s ≡ bit_steps 24 (bit_xor (bit_xor y (q * 2 ^ 16)) (s * 2 ^ 8)) =
    feed 16 (bit_xor y (q * 2 ^ 16)) (s * 2 ^ 8) s (omega arith) hs in
    let three : byte_step (bit_steps 24 (bit_xor (bit_xor y (q * 2 ^ 16)) (s * 2 ^ 8))) t ≡ bit_steps 32 (bit_xor (bit_xor (bit_xor y (q * 2 ^ 16)) (s * 2 ^ 8)) t) =
    feed 24 (bit_xor (bit_xor y (q * 2 ^ 16)) (s * 2 ^ 8)) t t refl ht in
    ap (λ (x : ℕ). byte_step (byte_step x s) t) one ∙ ap (λ (x : ℕ). byte_step x t) two ∙ three

-- bytes at their four places, each by the table of its place
apart : (w x y z : ℕ) → w < 256 → x < 256 → y < 256 → z < 256
    → bit_steps 32 (bit_xor (w * 2 ^ 24) (bit_xor (x * 2 ^ 16) (bit_xor (y * 2 ^ 8) z)))
    ≡ bit_xor (bit_steps 32 (w * 2 ^ 24)) (bit_xor (bit_steps 24 (x * 2 ^ 24)) (bit_xor (bit_steps 16 (y * 2 ^ 24)) (bit_steps 8 (z * 2 ^ 24))))
apart w x y z hw hx hy hz =
    let hw' : w * 2 ^ 24 < 2 ^ 32 = omega arith in
    let hx' : x * 2 ^ 16 < 2 ^ 32 = omega arith in
    let hy' : y * 2 ^ 8 < 2 ^ 32 = omega arith in
    let hz' : z < 2 ^ 32 = omega arith in
    let h2 = xor_lt 32 (y * 2 ^ 8) z hy' hz' in
    let h1 = xor_lt 32 (x * 2 ^ 16) (bit_xor (y * 2 ^ 8) z) hx' h2 in
    let one = steps_linear 32 (w * 2 ^ 24) (bit_xor (x * 2 ^ 16) (bit_xor (y * 2 ^ 8) z)) hw' h1 in
    let two = steps_linear 32 (x * 2 ^ 16) (bit_xor (y * 2 ^ 8) z) hx' h2 in
    let three = steps_linear 32 (y * 2 ^ 8) z hy' hz' in
    let mx : bit_steps 32 (x * 2 ^ 16) ≡ bit_steps 24 (x * 2 ^ 24) = moved 24 8 (x * 2 ^ 16) (x * 2 ^ 24) zero8 (omega arith) (omega arith) in
    let my : bit_steps 32 (y * 2 ^ 8) ≡ bit_steps 16 (y * 2 ^ 24) = moved 16 16 (y * 2 ^ 8) (y * 2 ^ 24) zero16 (omega arith) (omega arith) in
    let mz : bit_steps 32 z ≡ bit_steps 8 (z * 2 ^ 24) = moved 8 24 z (z * 2 ^ 24) zero24 refl (omega arith) in
    cc

pub four_bytes : (r p q s t : ℕ) → r < 2 ^ 32 → p < 256 → q < 256 → s < 256 → t < 256
    → byte_step (byte_step (byte_step (byte_step r p) q) s) t
    ≡ bit_xor (bit_steps 32 (bit_xor (r / 2 ^ 24) p * 2 ^ 24)) (bit_xor (bit_steps 24 (bit_xor (r / 2 ^ 16 % 256) q * 2 ^ 24)) (bit_xor (bit_steps 16 (bit_xor (r / 2 ^ 8 % 256) s * 2 ^ 24)) (bit_steps 8 (bit_xor (r % 256) t * 2 ^ 24))))
four_bytes r p q s t hr hp hq hs ht =
    let a = r / 2 ^ 24 in
    let b = r / 2 ^ 16 % 256 in
    let c = r / 2 ^ 8 % 256 in
    let d = r % 256 in
    let split = bytes r in
    let order = shuffled (a * 2 ^ 24) (b * 2 ^ 16) (c * 2 ^ 8) d (p * 2 ^ 24) (q * 2 ^ 16) (s * 2 ^ 8) t in
    let sp = xor-shl 24 a p in
    let sq = xor-shl 16 b q in
    let ss = xor-shl 8 c s in
    let placed : bit_xor (bit_xor (bit_xor (bit_xor r (p * 2 ^ 24)) (q * 2 ^ 16)) (s * 2 ^ 8)) t ≡ bit_xor (bit_xor a p * 2 ^ 24) (bit_xor (bit_xor b q * 2 ^ 16) (bit_xor (bit_xor c s * 2 ^ 8) (bit_xor d t))) =
    ap (λ (x : ℕ). bit_xor (bit_xor (bit_xor (bit_xor x (p * 2 ^ 24)) (q * 2 ^ 16)) (s * 2 ^ 8)) t) split ∙ order
    ∙ ap (λ (x : ℕ). bit_xor x (bit_xor (bit_xor (b * 2 ^ 16) (q * 2 ^ 16)) (bit_xor (bit_xor (c * 2 ^ 8) (s * 2 ^ 8)) (bit_xor d t)))) sp
    ∙ ap (λ (x : ℕ). bit_xor (bit_xor a p * 2 ^ 24) (bit_xor x (bit_xor (bit_xor (c * 2 ^ 8) (s * 2 ^ 8)) (bit_xor d t)))) sq
    ∙ ap (λ (x : ℕ). bit_xor (bit_xor a p * 2 ^ 24) (bit_xor (bit_xor b q * 2 ^ 16) (bit_xor x (bit_xor d t)))) ss in
    gathered r p q s t hp hq hs ht ∙ ap (bit_steps 32) placed
    ∙ apart (bit_xor a p) (bit_xor b q) (bit_xor c s) (bit_xor d t) (xor_lt 8 a p (omega arith) hp) (xor_lt 8 b q (omega arith) hq) (xor_lt 8 c s (omega arith) hs) (xor_lt 8 d t (omega arith) ht)

-- the four bytes of the register and four bytes more, each pair by its table
pub by_tables : (r a b c d : ℕ) (ws bs : List ℕ) → r < 2 ^ 32 → ws ≡ to_be_bytes w32 r → length bs ≡ 4 → ((i : ℕ) → get_or bs i 0 < 256)
    → a ≡ bit_steps 32 (bit_xor (get_or ws 0 0) (get_or bs 0 0) * 2 ^ 24)
    → b ≡ bit_steps 24 (bit_xor (get_or ws 1 0) (get_or bs 1 0) * 2 ^ 24)
    → c ≡ bit_steps 16 (bit_xor (get_or ws 2 0) (get_or bs 2 0) * 2 ^ 24)
    → d ≡ bit_steps 8 (bit_xor (get_or ws 3 0) (get_or bs 3 0) * 2 ^ 24)
    → bit_xor a (bit_xor b (bit_xor c d)) ≡ checksum r bs
by_tables r a b c d ws bs h e l f ea eb ec ed =
    let ws0 : get_or ws 0 0 ≡ r / 2 ^ 24 = ap (λ (xs : List ℕ). get_or xs 0 0) e ∙ omega arith in
    let ws1 : get_or ws 1 0 ≡ r / 2 ^ 16 % 256 = ap (λ (xs : List ℕ). get_or xs 1 0) e ∙ omega arith in
    let ws2 : get_or ws 2 0 ≡ r / 2 ^ 8 % 256 = ap (λ (xs : List ℕ). get_or xs 2 0) e ∙ omega arith in
    let ws3 : get_or ws 3 0 ≡ r % 256 = ap (λ (xs : List ℕ). get_or xs 3 0) e ∙ omega arith in
    let ga : a ≡ bit_steps 32 (bit_xor (r / 2 ^ 24) (get_or bs 0 0) * 2 ^ 24) = ea ∙ ap (λ (w : ℕ). bit_steps 32 (bit_xor w (get_or bs 0 0) * 2 ^ 24)) ws0 in
    let gb : b ≡ bit_steps 24 (bit_xor (r / 2 ^ 16 % 256) (get_or bs 1 0) * 2 ^ 24) = eb ∙ ap (λ (w : ℕ). bit_steps 24 (bit_xor w (get_or bs 1 0) * 2 ^ 24)) ws1 in
    let gc : c ≡ bit_steps 16 (bit_xor (r / 2 ^ 8 % 256) (get_or bs 2 0) * 2 ^ 24) = ec ∙ ap (λ (w : ℕ). bit_steps 16 (bit_xor w (get_or bs 2 0) * 2 ^ 24)) ws2 in
    let gd : d ≡ bit_steps 8 (bit_xor (r % 256) (get_or bs 3 0) * 2 ^ 24) = ed ∙ ap (λ (w : ℕ). bit_steps 8 (bit_xor w (get_or bs 3 0) * 2 ^ 24)) ws3 in
    let all = four_bytes r (get_or bs 0 0) (get_or bs 1 0) (get_or bs 2 0) (get_or bs 3 0) h (f 0) (f 1) (f 2) (f 3) in
    let fed = word_fed r bs l in
    cc
