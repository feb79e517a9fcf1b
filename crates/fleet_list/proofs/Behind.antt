-- Bytes are written from the front on: `a` stands at the front of what was `xs`, and a write behind it makes it longer.
use Rattle.std.proofs.Common.{◌≡◌, ℕ, ◌+◌, ◌-◌, ◌<◌, ◌≤◌, List, [], ◌∷◌, ◌++◌, length, take, drop, set, sym, refl, ap, ◌∙◌, subst, append_assoc, arith}
use borrow.Rule.Slice.PartMut.{put_mid}
use Rattle.fleet_list.specs.Writes.{Written}
use Rattle.std.proofs.lemmas.List.{take_at, drop_at, drop-drop, drop_more, set-append_right, drop_all, length-drop, length-append, take_rest, take_all, append-nil}

-- after a store at `out[n]`
pub one_behind : (a xs : List ℕ) (n v : ℕ) → length a ≡ n → n < length xs → set (a ++ drop n xs) n v ≡ (a ++ v ∷ []) ++ drop (n + 1) xs
one_behind a xs n v h l =
    let z : n - n ≡ 0 = omega arith in
    let w : n ≤ n = omega arith in
    rw (set-append_right a (drop n xs) n n v h w, z, drop_more xs n 0 l) (sym (append_assoc a (v ∷ []) (drop (n + 1) xs)))

-- after a loan of `out[n..]` to a writer that wrote `b` at its front
pub lent_behind : (a b xs : List ℕ) (n m k : ℕ) → length a ≡ n → length b ≡ m → n ≤ length xs → k ≡ length xs - n
    → put_mid n k (a ++ drop n xs) (b ++ drop m (take k (drop n (a ++ drop n xs)))) ≡ (a ++ b) ++ drop (n + m) xs
lent_behind a b xs n m k h l w e =
    let rest : take k (drop n xs) ≡ drop n xs = take_all k (drop n xs) (omega (arith, length-drop n xs)) in
    let none : drop k (drop n xs) ≡ [] = drop_all k (drop n xs) (omega (arith, length-drop n xs)) in
    rw (take_at a (drop n xs) n h, drop_at a (drop n xs) n h, rest, none, drop-drop m n xs, append-nil)
    (sym (append_assoc a b (drop (n + m) xs)))

-- a loan of `out[n..]` to a writer, behind what a writer has written
pub then_lent : (a b xs : List ℕ) {out last : List ℕ} (n m k : ℕ) → out ≡ a ++ drop n xs → length a ≡ n → last ≡ b ++ drop m (take k (drop n out)) → length b ≡ m
    → n ≤ length xs → k ≡ length xs - n → put_mid n k out last ≡ (a ++ b) ++ drop (n + m) xs
then_lent a b xs {out} {last} n m k eo ha el hb w ek = let s = lent_behind a b xs n m k ha hb w ek in cc

sums : {a b n m : ℕ} → a ≡ n → b ≡ m → a + b ≡ n + m
sums p q = omega arith

take_room : (out : List ℕ) (n k : ℕ) → k ≡ length out - n → length (take k (drop n out)) ≡ length out - n
take_room out n k e = ap (λ k. length (take k (drop n out))) e ∙ ap length (take_rest out n) ∙ length-drop n out

-- as long as it was
pub same_length : {a xs out : List ℕ} {n : ℕ} → Written a xs n out → length out ≡ length xs
same_length {a} {xs} {out} {n} f = ap length f.wrote ∙ length-append a (drop n xs) ∙ sums f.long (length-drop n xs) ∙ omega (arith, f.fits)

-- and then the loan of `out[n..]`, whatever was written before
pub lend : {a b xs out last : List ℕ} {n m k : ℕ} → Written a xs n out → Written b (take k (drop n out)) m last → k ≡ length out - n
    → Written (a ++ b) xs (n + m) (put_mid n k out last)
lend {a} {b} {xs} {out} {last} {n} {m} {k} f g ek =
    let same = same_length f in
    record {
      wrote = then_lent a b xs n m k f.wrote f.long g.wrote g.long f.fits (omega arith);
      long = length-append a b ∙ sums f.long g.long;
      fits = omega (arith, f.fits, g.fits, take_room out n k ek);
    }

-- a store at `out[n]`, behind what is written
pub then_byte : {a xs out : List ℕ} {n : ℕ} → Written a xs n out → (v : ℕ) → n < length xs → Written (a ++ v ∷ []) xs (n + 1) (set out n v)
then_byte {a} {xs} {out} {n} f v l = record {
  wrote = ap (λ z. set z n v) f.wrote ∙ one_behind a xs n v f.long l;
  long = length-append a (v ∷ []) ∙ sums f.long refl;
  fits = omega arith;
}

-- nothing is written
pub written_none : (xs : List ℕ) → Written [] xs 0 xs
written_none xs = record { wrote = refl; long = refl; fits = omega arith }

-- the same bytes in other words
pub same_text : {a b xs out : List ℕ} {n : ℕ} → a ≡ b → Written a xs n out → Written b xs n out
same_text {a} {b} {xs} {out} {n} e f = subst (λ z. Written z xs n out) e f

-- what is lent of `out[at..]`
pub lent_fits : (out : List ℕ) (at n : ℕ) → at ≤ length out → n ≤ length (take (length out - at) (drop at out)) → at + n ≤ length out
lent_fits out at n l h = omega (arith, take_room out at (length out - at) refl)
