-- What is left to feed, one byte and four bytes on, and a second part after a first.
-- Assumes nothing.
use Rattle.std.proofs.Common.{◌≡◌, ℕ, zero, suc, ◌+◌, ◌*◌, ◌<◌, ◌≤◌, List, [], ◌∷◌, ◌++◌, length, get_or, take, drop, sym, refl, ap, ◌∙◌, arith}
use Rattle.std.proofs.lemmas.List.{at_drop_more, at_drop_all, take_more, take-append-drop, drop-drop, append_assoc, append-nil}
use Rattle.std.proofs.lemmas.List.Folds.{concat-append}
use Rattle.std.specs.List.{concat}
use Rattle.std.specs.Simd.{first_chunks}
use Rattle.sc32.specs.Checksum.{byte_step, checksum}

pub two_parts : (seed : ℕ) (xs ys : List ℕ) → checksum seed (xs ++ ys) ≡ checksum (checksum seed xs) ys
unfolding checksum
two_parts seed [] ys = refl
two_parts seed (x ∷ xs) ys = two_parts (byte_step seed x) xs ys

one_on : (r : ℕ) (xs : List ℕ) (i j : ℕ) → i + 1 ≡ j → i < length xs → checksum r (drop i xs) ≡ checksum (byte_step r (get_or xs i 0)) (drop j xs)
unfolding checksum
one_on r xs i j e h = at_drop_more (checksum r) xs i 0 h ∙ ap (λ (k : ℕ). checksum (byte_step r (get_or xs i 0)) (drop k xs)) e

pub four_on : (r : ℕ) (xs : List ℕ) (i : ℕ) → i + 4 ≤ length xs
    → checksum r (drop i xs)
    ≡ checksum (byte_step (byte_step (byte_step (byte_step r (get_or xs i 0)) (get_or xs (i + 1) 0)) (get_or xs (i + 2) 0)) (get_or xs (i + 3) 0)) (drop (i + 4) xs)
four_on r xs i h =
    let s1 = byte_step r (get_or xs i 0) in
    let s2 = byte_step s1 (get_or xs (i + 1) 0) in
    let s3 = byte_step s2 (get_or xs (i + 2) 0) in
    one_on r xs i (i + 1) (omega arith) (omega arith) ∙ one_on s1 xs (i + 1) (i + 2) (omega arith) (omega arith)
    ∙ one_on s2 xs (i + 2) (i + 3) (omega arith) (omega arith) ∙ one_on s3 xs (i + 3) (i + 4) (omega arith) (omega arith)

pub none_left : (r : ℕ) (xs : List ℕ) (i : ℕ) → length xs ≤ i → checksum r (drop i xs) ≡ r
unfolding checksum
none_left r xs i h = at_drop_all (checksum r) xs i h

-- the register after one more byte of the list
pub one_more : (seed : ℕ) (xs : List ℕ) (i : ℕ) → i < length xs → checksum seed (take (i + 1) xs) ≡ byte_step (checksum seed (take i xs)) (get_or xs i 0)
unfolding checksum
one_more seed xs i h = ap (checksum seed) (take_more xs i 0 h) ∙ two_parts seed (take i xs) (get_or xs i 0 ∷ [])

-- four bytes, one after another
pub word_fed : (r : ℕ) (xs : List ℕ) → length xs ≡ 4
    → checksum r xs ≡ byte_step (byte_step (byte_step (byte_step r (get_or xs 0 0)) (get_or xs 1 0)) (get_or xs 2 0)) (get_or xs 3 0)
word_fed r xs e =
    four_on r xs 0 (omega (arith, e))
    ∙ none_left (byte_step (byte_step (byte_step (byte_step r (get_or xs 0 0)) (get_or xs 1 0)) (get_or xs 2 0)) (get_or xs 3 0)) xs 4 (omega (arith, e))

-- the register after one more word of the list
pub one_word_more : (seed : ℕ) (ws : List (List ℕ)) (i : ℕ) → i < length ws
    → checksum seed (concat (take (i + 1) ws)) ≡ checksum (checksum seed (concat (take i ws))) (get_or ws i [])
one_word_more seed ws i h =
    ap (λ parts. checksum seed (concat parts)) (take_more ws i [] h)
    ∙ ap (checksum seed) (concat-append (take i ws) (get_or ws i [] ∷ []) ∙ ap (λ (w : List ℕ). concat (take i ws) ++ w) (append-nil (get_or ws i [])))
    ∙ two_parts seed (concat (take i ws)) (get_or ws i [])

-- words and what is left over are the bytes
pub words_and_rest : (k : ℕ) (xs : List ℕ) → concat (first_chunks 4 k xs) ++ drop (k * 4) xs ≡ xs
words_and_rest zero xs = refl
words_and_rest (suc k) xs =
    append_assoc (take 4 xs) (concat (first_chunks 4 k (drop 4 xs))) (drop (suc k * 4) xs)
    ∙ ap (λ (ys : List ℕ). take 4 xs ++ ys) (
    ap (λ (ys : List ℕ). concat (first_chunks 4 k (drop 4 xs)) ++ ys) (further) ∙ words_and_rest k (drop 4 xs))
    ∙ take-append-drop 4 xs
  where
    further : drop (suc k * 4) xs ≡ drop (k * 4) (drop 4 xs)
    further =
        let z : suc k * 4 ≡ 4 + k * 4 = omega arith in
        ap (λ (n : ℕ). drop n xs) z ∙ sym (drop-drop (k * 4) 4 xs)
