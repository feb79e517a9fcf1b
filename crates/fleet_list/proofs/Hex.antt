-- Hex digits, bytes and identities.
use Rattle.std.proofs.Common.{◌≡◌, ℕ, zero, suc, ◌+◌, ◌*◌, ◌/◌, ◌%◌, ◌<◌, Bool, true, false, cond, ltb, List, [], ◌∷◌, length, refl, ap, ◌∙◌, inl, inr, ⊎_elim, arith, ltb-false, ltb-true}
use Rattle.std.specs.List.{AllByRecursion}
use Rattle.fleet_list.specs.Forms.{Front, Both, joint}
use Rattle.fleet_list.specs.Texts.{hex, byte_text}
use Rattle.fleet_list.specs.Parts.{Nibble, digit_text, Byte, bytes_text, Bytes, IsHex}
use Rattle.fleet_list.proofs.Seq.{First}
use Rattle.fleet_list.proofs.Series.{Apart, front_many}

hex_is_by : (n : ℕ) (z : Bool) → ltb n 10 ≡ z → n < 16 → IsHex (cond z (48 + n) (87 + n))
hex_is_by n true z l = let k = ltb-true n 10 z in inl (omega arith, omega arith)
hex_is_by n false z l = let k = ltb-false n 10 z in inr (omega arith, omega arith)

pub hex_is : (n : ℕ) → n < 16 → IsHex (hex n)
hex_is n l = hex_is_by n (ltb n 10) refl l

hex_same_by : (m n : ℕ) (x y : Bool) → ltb m 10 ≡ x → ltb n 10 ≡ y → m < 16 → n < 16 → cond x (48 + m) (87 + m) ≡ cond y (48 + n) (87 + n) → m ≡ n
hex_same_by m n true true x y l k e = omega arith
hex_same_by m n true false x y l k e = let a = ltb-true m 10 x in let b = ltb-false n 10 y in omega arith
hex_same_by m n false true x y l k e = let a = ltb-false m 10 x in let b = ltb-true n 10 y in omega arith
hex_same_by m n false false x y l k e = omega arith

hex_same : (m n : ℕ) → m < 16 → n < 16 → hex m ≡ hex n → m ≡ n
hex_same m n l k e = hex_same_by m n (ltb m 10) (ltb n 10) refl refl l k e

pub first_digit : First Nibble digit_text IsHex
first_digit n g = (hex n, [], hex_is n g, refl)

pub front_digit : Front Nibble digit_text
front_digit v v' w w' g g' e =
    let h : hex v ≡ hex v' = cc in
    (hex_same v v' g g' h, cc)

pub digits_byte : (x : ℕ × ℕ) → Both Nibble Nibble x → (b : ℕ) × Byte b × (byte_text b ≡ joint digit_text digit_text x)
digits_byte x g =
    let l = g.0 in
    let k = g.1 in
    let q : (x.0 * 16 + x.1) / 16 ≡ x.0 = omega arith in
    let r : (x.0 * 16 + x.1) % 16 ≡ x.1 = omega arith in
    (x.0 * 16 + x.1, omega arith, ap (λ z. hex z ∷ hex ((x.0 * 16 + x.1) % 16) ∷ []) q ∙ ap (λ z. hex x.0 ∷ hex z ∷ []) r)

pub byte_digits : (b : ℕ) → Byte b → (x : ℕ × ℕ) × Both Nibble Nibble x × (byte_text b ≡ joint digit_text digit_text x)
byte_digits b g = ((b / 16, b % 16), (omega arith, omega arith), refl)

pub front_byte : Front Byte byte_text
front_byte v v' w w' g g' e =
    let h : hex (v / 16) ≡ hex (v' / 16) = cc in
    let l : hex (v % 16) ≡ hex (v' % 16) = cc in
    let a = hex_same (v / 16) (v' / 16) (omega arith) (omega arith) h in
    let b = hex_same (v % 16) (v' % 16) (omega arith) (omega arith) l in
    (omega arith, cc)

pub zeros : ℕ → List ℕ
zeros zero = []
zeros (suc m) = 0 ∷ zeros m

pub zeros_long : (m : ℕ) → length (zeros m) ≡ m
unfolding zeros
zeros_long zero = refl
zeros_long (suc m) = ap suc (zeros_long m)

pub zeros_good : (m : ℕ) → AllByRecursion Byte (zeros m)
unfolding zeros
zeros_good zero = tt
zeros_good (suc m) = (omega arith, zeros_good m)

-- a hex digit is no space
hex_apart : (n x : ℕ) → n < 16 → hex n ≡ x → x ≡ 32 → ⊥
hex_apart n x l e q = ⊎_elim (λ h. omega arith) (λ h. omega arith) (hex_is n l)

pub apart_byte : Apart Byte byte_text 32
apart_byte b w y g e = let h : hex (b / 16) ≡ 32 = cc in hex_apart (b / 16) 32 (omega arith) h refl

pub front_identity : (m : ℕ) → Front (Bytes m) bytes_text
front_identity m = front_many Byte byte_text 32 front_byte apart_byte (λ n. n ≡ m)
