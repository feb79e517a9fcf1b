-- The header in front of the sections, with their counters.
use Rattle.std.proofs.Common.{◌≡◌, ℕ, ◌+◌, ◌-◌, ◌≤◌, List, [], ◌++◌, length, take, drop, sym, refl, ap, ◌∙◌, ap₂, append_assoc, arith}
use borrow.Rule.Slice.PartMut.{put_mid}
use Rattle.std.proofs.lemmas.List.{take_at, drop_at, drop-drop, drop_all, take_all, append-nil, length-append, length-drop, length-take-le}
use Rattle.sc32.specs.Checksum.{checksum}
use Rattle.directory.specs.declared.writing.Head.{Head}
use Rattle.directory.specs.Whole.{header_of, whole_of}
use Rattle.directory.specs.Written.{Written}

module _ (xs last first rest : List ℕ) (k train all : ℕ) (ek : k ≡ length xs - 16) (room : 16 ≤ length xs)
    (w : Written (first ++ rest) (take k (drop 16 xs)) all last) (long : length first ≡ train) (inside : train ≤ all) where
  lent : take k (drop 16 xs) ≡ drop 16 xs
  lent = take_all k (drop 16 xs) (omega (arith, length-drop 16 xs))

  pub all_fits : 16 + all ≤ length xs
  all_fits = let l = ap length lent ∙ length-drop 16 xs in let f = w.fits in omega arith

  out : List ℕ
  out = put_mid 16 k xs last

  body : put_mid 16 k xs last ≡ take 16 xs ++ ((first ++ rest) ++ drop (16 + all) xs)
  body =
      let none : drop k (drop 16 xs) ≡ [] = drop_all k (drop 16 xs) (omega (arith, length-drop 16 xs)) in
      let laid : last ≡ (first ++ rest) ++ drop (16 + all) xs = w.wrote ∙ ap (λ z. (first ++ rest) ++ drop all z) lent ∙ ap (λ z. (first ++ rest) ++ z) (drop-drop all 16 xs) in
      ap₂ (λ a b. take 16 xs ++ (a ++ b)) laid none ∙ ap (λ z. take 16 xs ++ z) (append-nil ((first ++ rest) ++ drop (16 + all) xs))

  sixteen : length (take 16 xs) ≡ 16
  sixteen = length-take-le 16 xs room

  behind_head : drop 16 (put_mid 16 k xs last) ≡ (first ++ rest) ++ drop (16 + all) xs
  behind_head = ap (drop 16) body ∙ drop_at (take 16 xs) ((first ++ rest) ++ drop (16 + all) xs) 16 sixteen

  -- the first section, and the others, as the code lends them to the checksum
  pub first_part : take (16 + train - 16) (drop 16 (put_mid 16 k xs last)) ≡ first
  first_part =
      let z : 16 + train - 16 ≡ train = omega arith in
      ap (λ n. take n (drop 16 (put_mid 16 k xs last))) z ∙ ap (take train) (behind_head ∙ append_assoc first rest (drop (16 + all) xs))
      ∙ take_at first (rest ++ drop (16 + all) xs) train long

  pub other_part : take (16 + all - (16 + train)) (drop (16 + train) (put_mid 16 k xs last)) ≡ rest
  other_part =
      let both = length-append first rest in
      let whole = w.long in
      let z : 16 + all - (16 + train) ≡ length rest = omega arith in
      let cut : drop (16 + train) (put_mid 16 k xs last) ≡ rest ++ drop (16 + all) xs =
      sym (drop-drop train 16 (put_mid 16 k xs last)) ∙ ap (drop train) (behind_head ∙ append_assoc first rest (drop (16 + all) xs))
      ∙ drop_at first (rest ++ drop (16 + all) xs) train long in
      ap (λ n. take n (drop (16 + train) (put_mid 16 k xs last))) z ∙ ap (take (length rest)) cut ∙ take_at rest (drop (16 + all) xs) (length rest) refl

  pub whole_written : (h : Head) (tc oc : ℕ) (after : List ℕ) → tc ≡ checksum h.etb (take (16 + train - 16) (drop 16 (put_mid 16 k xs last)))
      → oc ≡ checksum tc (take (16 + all - (16 + train)) (drop (16 + train) (put_mid 16 k xs last)))
      → Written (header_of h tc oc) (put_mid 16 k xs last) 16 after → Written (whole_of h first rest) xs (16 + all) after
  whole_written h tc oc after et eo f =
      let t : tc ≡ checksum h.etb first = et ∙ ap (checksum h.etb) first_part in
      let o : oc ≡ checksum (checksum h.etb first) rest = eo ∙ ap₂ checksum t other_part in
      let head = ap₂ (header_of h) t o in
      record {
        wrote =
            f.wrote ∙ ap₂ (λ a b. a ++ b) head behind_head
            ∙ sym (append_assoc (header_of h (checksum h.etb first) (checksum (checksum h.etb first) rest)) (first ++ rest) (drop (16 + all) xs));
        long =
            length-append (header_of h (checksum h.etb first) (checksum (checksum h.etb first) rest)) (first ++ rest) ∙ ap (λ n. 16 + n) w.long;
        fits = all_fits;
      }
