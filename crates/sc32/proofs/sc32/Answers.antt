use Rattle.std.proofs.Common.{◌≡◌, ℕ, List, ◌++◌, ◌/◌, length, sym, ap, ◌∙◌}
use Rattle.std.specs.List.{concat}
use Rattle.std.specs.Simd.{first_chunks}
use Rattle.sc32.specs.Checksum.{checksum}
use Rattle.sc32.proofs.Feeds.{two_parts, words_and_rest}
use Rattle.sc32.proofs.sc32.Goals as goal

pub returns : goal.returns
returns c =
    let seed = c.args.seed in
    let xs = c.args.bytes.now in
    let words = c.as_chunks.result.0.now in
    let rest = c.as_chunks.result.1.now in
    let whole : concat words ++ rest ≡ xs =
    ap (λ (ws : List (List ℕ)). concat ws ++ rest) c.as_chunks.ensures.front ∙ ap (λ (ys : List ℕ). concat (first_chunks 4 (length xs / 4) xs) ++ ys) c.as_chunks.ensures.back ∙ words_and_rest (length xs / 4) xs in
    record {
      value =
          c.over_bytes.ensures ∙ ap (λ (r : ℕ). checksum r rest) c.over_words.ensures
          ∙ sym (two_parts seed (concat words) rest) ∙ ap (checksum seed) whole;
    }
