-- A first entry and a loan of the places behind it.
use Rattle.std.proofs.Common.{◌≡◌, ℕ, ◌+◌, ◌<◌, ◌≤◌, List, [], ◌∷◌, ◌++◌, length, take, set, ap, ◌∙◌, one-add, arith}
use lib.Seq.{take-append-le}
use borrow.Rule.Slice.PartMut.{put_mid, post_of}

pub front_lent : {A : Type 0} (room rest : List A) (v : A) (k n : ℕ) → 0 < length room → n ≤ length rest → take (1 + n) (put_mid 1 k (set room 0 v) rest) ≡ v ∷ take n rest
front_lent [] rest v k n l m = absurd (omega arith)
front_lent (x ∷ room) rest v k n l m = ap (λ i. take i (v ∷ (rest ++ post_of 1 k (v ∷ room)))) (one-add n) ∙ ap (λ z. v ∷ z) (take-append-le n rest (post_of 1 k (v ∷ room)) m)
