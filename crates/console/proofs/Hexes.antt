-- Bytes read from hex digits, two a byte.
use Rattle.std.proofs.Common.{◌≡◌, ℕ, zero, suc, ◌+◌, ◌*◌, ◌/◌, ◌%◌, ◌<◌, List, [], ◌∷◌, length, get_or, take, drop, arith, refl}
use Rattle.std.specs.List.{concat}
use Rattle.std.specs.Simd.{first_chunks}
use Rattle.std.proofs.Math.Seq.{take-add}
use Rattle.std.proofs.lemmas.Grind.{common_steps}
use Rattle.console.specs.Texts.{byte_text, hex_text, bytes_text}

concat-first_chunks : (k : ℕ) (xs : List ℕ) → concat (first_chunks 2 k xs) ≡ take (2 * k) xs
concat-first_chunks zero xs = refl
concat-first_chunks (suc k) xs = let e : 2 * suc k ≡ 2 + 2 * k = omega arith in rw (e, take-add 2 (2 * k) xs, concat-first_chunks k (drop 2 xs)) refl

-- each byte is written as its pair of digits
hex_text-pairs : (bytes : List ℕ) (pairs : List (List ℕ)) → length bytes ≡ length pairs
    → ((k : ℕ) → k < length pairs → byte_text (get_or bytes k 0) ≡ get_or pairs k []) → hex_text bytes ≡ concat pairs
hex_text-pairs [] [] e each = refl
hex_text-pairs (b ∷ bytes) (p ∷ pairs) e each =
    let first : byte_text b ≡ p = each 0 (omega arith) in
    let others = hex_text-pairs bytes pairs (omega arith) (λ (k : ℕ) (h : k < length pairs). each (suc k) (omega arith)) in
    rw (← first, others) refl
hex_text-pairs [] (p ∷ pairs) e each = absurd (omega arith)
hex_text-pairs (b ∷ bytes) [] e each = absurd (omega arith)

-- a text that is cut into pairs is that of the bytes that the pairs write
pub hex_text_of_pairs : (bytes field : List ℕ) (pairs : List (List ℕ)) → pairs ≡ first_chunks 2 (length field / 2) field → length field % 2 ≡ 0 → length bytes ≡ length pairs
    → ((k : ℕ) → k < length pairs → byte_text (get_or bytes k 0) ≡ get_or pairs k []) → hex_text bytes ≡ field
hex_text_of_pairs bytes field pairs cut even long each =
    let all : 2 * (length field / 2) ≡ length field = omega arith in
    rw (hex_text-pairs bytes pairs long each, cut, concat-first_chunks (length field / 2) field, all) (grind (arith, common_steps))

pub bytes_text_of_pairs : (bytes field : List ℕ) (pairs : List (List ℕ)) → pairs ≡ first_chunks 2 (length field / 2) field → length field % 2 ≡ 0 → length bytes ≡ length pairs
    → 0 < length pairs → ((k : ℕ) → k < length pairs → byte_text (get_or bytes k 0) ≡ get_or pairs k []) → bytes_text bytes ≡ field
bytes_text_of_pairs [] field pairs cut even long some each = absurd (omega arith)
bytes_text_of_pairs (b ∷ bytes) field pairs cut even long some each = hex_text_of_pairs (b ∷ bytes) field pairs cut even long each
