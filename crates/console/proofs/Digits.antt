-- Hex digits are ASCII, and bytes are written as their runs and what is left over.
use Rattle.std.proofs.Common.{◌≡◌, ℕ, zero, suc, ◌+◌, ◌*◌, ◌/◌, ◌%◌, ◌<◌, ◌≤◌, false, List, [], ◌∷◌, ◌++◌, length, get_or, take, drop, arith, refl, ap, sym, Result, Ok, Err, MatchResult, ◌∙◌}
use Rattle.std.specs.List.{concat}
use Rattle.std.specs.Simd.{first_chunks}
use Rattle.std.specs.Fmt.{digit_glyph}
use Rattle.std.specs.Str.{IsAscii, IsUtf8}
use Rattle.std.specs.Result.{IsOk}
use Rattle.std.proofs.Math.Seq.{take-add, take-suc}
use Rattle.std.proofs.lemmas.Grind.{common_steps}
use Rattle.std.proofs.lemmas.List.{take_all, take-append-drop}
use Rattle.std.proofs.lemmas.List.Concat.{flat_map-append}
use Rattle.std.proofs.lemmas.List.Folds.{concat-append}
use Rattle.console.specs.Texts.{byte_text, hex_text}

glyph_small : (n : ℕ) → n < 16 → digit_glyph false n < 128
glyph_small n h = grind (arith, common_steps)

pub hex_ascii : (bs : List ℕ) → ((i : ℕ) → get_or bs i 0 < 256) → IsAscii (hex_text bs)
hex_ascii [] h i = omega arith
hex_ascii (b ∷ bs) h zero = glyph_small (b / 16) (let s = h 0 in omega (arith, s))
hex_ascii (b ∷ bs) h (suc zero) = glyph_small (b % 16) (omega arith)
hex_ascii (b ∷ bs) h (suc (suc i)) = hex_ascii bs (λ (j : ℕ). h (suc j)) i

concat-runs : (n k : ℕ) (xs : List ℕ) → concat (first_chunks n k xs) ≡ take (n * k) xs
concat-runs n zero xs = let e : n * 0 ≡ 0 = omega arith in rw e refl
concat-runs n (suc k) xs = let e : n * suc k ≡ n + n * k = omega arith in rw (e, take-add n (n * k) xs, concat-runs n k (drop n xs)) refl

hex_text-append : (xs ys : List ℕ) → hex_text (xs ++ ys) ≡ hex_text xs ++ hex_text ys
hex_text-append xs ys = flat_map-append byte_text xs ys

pub run_more : (runs : List (List ℕ)) (i : ℕ) (text : List ℕ) → i < length runs → text ≡ hex_text (get_or runs i []) → hex_text (concat (take i runs)) ++ text ≡ hex_text (concat (take (i + 1) runs))
run_more runs i text h e =
    let j : i + 1 ≡ suc i = omega arith in
    let more : concat (take (i + 1) runs) ≡ concat (take i runs) ++ concat (get_or runs i [] ∷ []) = rw (j, take-suc runs i [] h) (concat-append (take i runs) (get_or runs i [] ∷ [])) in
    rw (e, more, hex_text-append (concat (take i runs)) (concat (get_or runs i [] ∷ []))) (grind (arith, common_steps))

pub runs_and_rest : (bs rest text : List ℕ) (runs : List (List ℕ)) (i n : ℕ) → runs ≡ first_chunks 32 n bs → rest ≡ drop (n * 32) bs → length runs ≤ i → text ≡ hex_text rest → hex_text (concat (take i runs)) ++ text ≡ hex_text bs
runs_and_rest bs rest text runs i n cut left all e =
    let flip : n * 32 ≡ 32 * n = omega arith in
    ap (λ (x : List ℕ). hex_text (concat (take i runs)) ++ x) e
    ∙ sym (hex_text-append (concat (take i runs)) rest)
    ∙ ap hex_text (ap (λ (x : List (List ℕ)). concat x ++ rest) (take_all i runs all ∙ cut) ∙ ap (λ (x : List ℕ). x ++ rest) (concat-runs 32 n bs) ∙ ap (λ (x : List ℕ). take (32 * n) bs ++ x) (left ∙ ap (λ (k : ℕ). drop k bs) flip) ∙ take-append-drop (32 * n) bs)

-- a call that fails at no text
pub ok_at_text : {T E : Type 0} {bs : List ℕ} (P : T → Type 0) (Q : E → Type 0) → IsUtf8 bs → (r : Result T E) → MatchResult r P (λ e. ¬ (IsUtf8 bs) × Q e) → IsOk r
ok_at_text P Q u (Ok x) h = refl
ok_at_text P Q u (Err e) h = absurd (h.0 u)
