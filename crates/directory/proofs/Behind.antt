-- What is written from the front on, one part behind another.
use Rattle.std.proofs.Common.{◌≡◌, ℕ, ◌+◌, ◌-◌, ◌<◌, ◌≤◌, List, [], ◌∷◌, ◌++◌, length, take, drop, set, sym, refl, ap, ◌∙◌, subst, append_assoc, arith}
use borrow.Rule.Slice.PartMut.{put_mid}
use Rattle.std.proofs.lemmas.List.{take_at, drop_at, drop-drop, drop_all, length-drop, length-append, take_all, append-nil}
use Rattle.directory.specs.Written.{Written}

sums : {a b n m : ℕ} → a ≡ n → b ≡ m → a + b ≡ n + m
sums p q = omega arith

module _ {A : Type 0} where
  -- after a loan of `out[n..]` to a writer that wrote `b` at its front
  lent_behind : (a b xs : List A) (n m k : ℕ) → length a ≡ n → length b ≡ m → n ≤ length xs → k ≡ length xs - n
      → put_mid n k (a ++ drop n xs) (b ++ drop m (take k (drop n (a ++ drop n xs)))) ≡ (a ++ b) ++ drop (n + m) xs
  lent_behind a b xs n m k h l w e =
      let rest : take k (drop n xs) ≡ drop n xs = take_all k (drop n xs) (omega (arith, length-drop n xs)) in
      let none : drop k (drop n xs) ≡ [] = drop_all k (drop n xs) (omega (arith, length-drop n xs)) in
      rw (take_at a (drop n xs) n h, drop_at a (drop n xs) n h, rest, none, drop-drop m n xs, append-nil)
      (sym (append_assoc a b (drop (n + m) xs)))

  then_lent : (a b xs : List A) {out last : List A} (n m k : ℕ) → out ≡ a ++ drop n xs → length a ≡ n → last ≡ b ++ drop m (take k (drop n out)) → length b ≡ m
      → n ≤ length xs → k ≡ length xs - n → put_mid n k out last ≡ (a ++ b) ++ drop (n + m) xs
  then_lent a b xs {out} {last} n m k eo ha el hb w ek = let s = lent_behind a b xs n m k ha hb w ek in cc

  -- what is written keeps the length
  pub same_length : {a xs out : List A} {n : ℕ} → Written a xs n out → length out ≡ length xs
  same_length {a} {xs} {out} {n} f =
      let e = ap length f.wrote ∙ length-append a (drop n xs) ∙ sums f.long (length-drop n xs) in
      let w = f.fits in
      e ∙ omega arith

  pub nothing_yet : (xs : List A) → Written [] xs 0 xs
  nothing_yet xs = record { wrote = refl; long = refl; fits = omega arith }

  -- a loan of `out[n..]` to a writer, behind what has been written
  pub lend : {a b xs out last : List A} {n m k : ℕ} → Written a xs n out → Written b (take k (drop n out)) m last → k ≡ length out - n
      → Written (a ++ b) xs (n + m) (put_mid n k out last)
  lend {a} {b} {xs} {out} {last} {n} {m} {k} f g ek =
      let same = same_length f in
      let w = f.fits in
      let rest : take k (drop n out) ≡ drop n out = take_all k (drop n out) (omega (arith, length-drop n out)) in
      let room = ap length rest ∙ length-drop n out in
      let fits = g.fits in
      record {
        wrote = then_lent a b xs n m k f.wrote f.long g.wrote g.long w (omega arith);
        long = length-append a b ∙ sums f.long g.long;
        fits = omega (arith, fits, room, same);
      }

  pub room_left : {a xs out : List A} {n k : ℕ} → Written a xs n out → k ≡ length out - n → (m : ℕ) → n + m ≤ length xs → m ≤ length (take k (drop n out))
  room_left {a} {xs} {out} {n} {k} f ek m h =
      let same = same_length f in
      let rest : take k (drop n out) ≡ drop n out = take_all k (drop n out) (omega (arith, length-drop n out)) in
      let room = ap length rest ∙ length-drop n out in
      omega arith

  pub same_text : {a b xs out : List A} {n : ℕ} → a ≡ b → Written a xs n out → Written b xs n out
  same_text {a} {b} {xs} {out} {n} e f = subst (λ z. Written z xs n out) e f

  -- after a copy into `out[n..n + m]`, behind one into `out[0..n]`
  pub two : {a' b' a b : List A} (xs : List A) (n m : ℕ) → a' ≡ a → b' ≡ b → length a ≡ n → put_mid n m (a' ++ drop n xs) b' ≡ (a ++ b) ++ drop (n + m) xs
  two {a'} {b'} {a} {b} xs n m ea eb h =
      let put : put_mid n m (a ++ drop n xs) b ≡ (a ++ b) ++ drop (n + m) xs =
      rw (take_at a (drop n xs) n h, drop_at a (drop n xs) n h, drop-drop m n xs) (sym (append_assoc a b (drop (n + m) xs))) in
      cc

  -- and a third
  pub three : {a' b' t' a b t : List A} (xs : List A) (n m k : ℕ) → a' ≡ a → b' ≡ b → t' ≡ t → length a ≡ n → length b ≡ m
      → put_mid (n + m) k (put_mid n m (a' ++ drop n xs) b') t' ≡ (a ++ (b ++ t)) ++ drop (n + m + k) xs
  three {a'} {b'} {t'} {a} {b} {t} xs n m k ea eb et ha hb =
      let h : length (a ++ b) ≡ n + m = length-append a b ∙ sums ha hb in
      let one = two xs n m ea eb ha in
      let next = two {a' = a ++ b} {b' = t'} {a = a ++ b} {b = t} xs (n + m) k refl et h in
      let flat = append_assoc a b t in
      cc

  -- one element at the front
  pub first_set : (xs : List A) (v : A) → 0 < length xs → Written (v ∷ []) xs 1 (set xs 0 v)
  first_set [] v h = absurd (omega arith)
  first_set (x ∷ xs) v h = record { wrote = refl; long = refl; fits = omega arith }

  -- what was written, as the code lends it
  pub front : {a xs out : List A} {n : ℕ} → Written a xs n out → take (n - 0) out ≡ a
  front {a} {xs} {out} {n} w =
      let z : n - 0 ≡ n = omega arith in
      ap (λ k. take k out) z ∙ ap (take n) w.wrote ∙ take_at a (drop n xs) n w.long

  pub same_count : {a xs out : List A} {n m : ℕ} → n ≡ m → Written a xs n out → Written a xs m out
  same_count {a} {xs} {out} {n} {m} e f = subst (λ k. Written a xs k out) e f
