-- The rule for names: what the loops find, and the rule in its own words.
use Rattle.std.proofs.Common.{◌≡◌, ℕ, zero, suc, ◌+◌, ◌-◌, ◌<◌, ◌≤◌, Bool, true, false, cond, not, ◌&&◌, eqb, ltb, ◌==◌, leb, ◌⊎◌, List, [], ◌∷◌, ◌++◌, length, take, drop, replicate, Some, None, Decides, sym, refl, ap, ◌∙◌, inl, inr, arith}
use Rattle.std.specs.List.{AllByRecursion, position, position_or_len}
use Rattle.std.specs.Option.{unwrap_or}
use Rattle.std.proofs.lemmas.List.Folds.{length-prefix_len}
use Rattle.std.proofs.lemmas.List.Sums.{prefix_len-le-length}
use Rattle.std.specs.Str.{bytes_eq}
use Rattle.std.proofs.lemmas.List.{take_all, drop-replicate, length-replicate}
use Rattle.std.proofs.lemmas.Bool.{and_parts, and_from, and_left, and_right, eq-eqb, ne_eqb, leb-true, le-leb}
use Rattle.std.proofs.lemmas.Bool.Decides.{nat_tests, Decides-and, Decides-at}
use Rattle.std.proofs.ByRecursion.{Decides-by_and}
use Rattle.std.proofs.lemmas.Slice.Eq.{bytes_eq-Decides}
use Rattle.train.specs.Names.{every, printable, text_of, padded, name_text, well_formed, IsName}

-- its length is that of the bytes in front of the first zero byte
zero_first : (b : ℕ) (t : Bool) (bs : List ℕ) → eqb b 0 ≡ t → text_of bs ≡ take (position_or_len (λ b. b == 0) bs) bs
    → cond t [] (b ∷ text_of bs) ≡ take (cond (not t) (1 + position_or_len (λ b. b == 0) bs) 0) (b ∷ bs)
zero_first b true bs e h = refl
zero_first b false bs e h =
    let n = position_or_len (λ b. b == 0) bs in
    let z : suc n ≡ 1 + n = omega arith in
    ap (λ (t : List ℕ). b ∷ t) h ∙ ap (λ (m : ℕ). take m (b ∷ bs)) z

pub text_of-take : (bs : List ℕ) → text_of bs ≡ take (position_or_len (λ b. b == 0) bs) bs
text_of-take [] = refl
text_of-take (b ∷ bs) = zero_first b (eqb b 0) bs refl (text_of-take bs)

length-text_of : (bs : List ℕ) → length (text_of bs) ≡ position_or_len (λ b. b == 0) bs
length-text_of bs = ap length (text_of-take bs) ∙ length-prefix_len (λ b. not (b == 0)) bs

pub text_of-take_length : (bs : List ℕ) → take (length (text_of bs)) bs ≡ text_of bs
text_of-take_length bs = ap (λ (n : ℕ). take n bs) (length-text_of bs) ∙ sym (text_of-take bs)

found_or : (n l : ℕ) (t : Bool) → ltb n l ≡ t → n ≤ l → unwrap_or (cond t (Some n) None) l ≡ n
found_or n l true e h = refl
found_or n l false e h = grind (arith, nat_tests)

pub first_zero_or_len : (bs : List ℕ) → unwrap_or (position (λ b. b == 0) bs) (length bs) ≡ length (text_of bs)
first_zero_or_len bs =
    let n = position_or_len (λ b. b == 0) bs in
    found_or n (length bs) (ltb n (length bs)) refl (prefix_len-le-length (λ b. not (b == 0)) bs) ∙ sym (length-text_of bs)

-- the test of a whole name goes on behind its text
behind_byte : (b : ℕ) (bs : List ℕ) (k : ℕ) (z : Bool) → eqb b 0 ≡ z
    → bytes_eq bs (text_of bs ++ replicate k 0) ≡ bytes_eq (drop (length (text_of bs)) bs) (replicate k 0)
    → bytes_eq (b ∷ bs) (cond z [] (b ∷ text_of bs) ++ replicate k 0) ≡ bytes_eq (drop (length (cond z [] (b ∷ text_of bs))) (b ∷ bs)) (replicate k 0)
behind_byte b bs k true e f = refl
behind_byte b bs k false e f = let same : eqb b b ≡ true = eq-eqb b b refl in rw same f

same_behind : (bs : List ℕ) (k : ℕ) → bytes_eq bs (text_of bs ++ replicate k 0) ≡ bytes_eq (drop (length (text_of bs)) bs) (replicate k 0)
same_behind [] k = refl
same_behind (b ∷ bs) k = behind_byte b bs k (eqb b 0) refl (same_behind bs k)

-- what the tests of a name found, put together; `n` is the length of its text
module _ (bs : List ℕ) (n : ℕ) (len : n ≡ length (text_of bs)) where
  pub outside : (n ≡ 0) ⊎ (15 < n) → false ≡ well_formed bs
  outside (inl e) = grind (arith, nat_tests)
  outside (inr h) = grind (arith, nat_tests)

  inside : 1 ≤ n → n ≤ 15 → (leb 1 (length (text_of bs)) && leb (length (text_of bs)) 15) ≡ true
  inside h k =
      let t = length (text_of bs) in
      and_from (leb 1 t) (leb t 15) (le-leb 1 t (omega (arith, len))) (le-leb t 15 (omega (arith, len)))

  rest_zero : n ≤ 15 → bytes_eq bs (padded (text_of bs)) ≡ bytes_eq (drop n bs) (take (16 - n) (drop n (replicate 16 0)))
  rest_zero h =
      let long = length-replicate {A = ℕ} (16 - n) 0 in
      let cut : take (16 - n) (drop n (replicate {A = ℕ} 16 0)) ≡ replicate (16 - n) 0 =
      ap (take (16 - n)) (drop-replicate {X = ℕ} n 16 0) ∙ take_all (16 - n) (replicate (16 - n) 0) (omega (arith, long)) in
      same_behind bs (16 - length (text_of bs)) ∙ ap (λ (m : ℕ). bytes_eq (drop m bs) (replicate (16 - m) 0)) (sym len)
      ∙ ap (bytes_eq (drop n bs)) (sym cut)

  pub unprinted : (front : List ℕ) → front ≡ text_of bs → every printable front ≡ false → false ≡ well_formed bs
  unprinted front e p =
      let q : every printable (text_of bs) ≡ false = ap (every printable) (sym e) ∙ p in
      sym (and_left _ _ (and_right _ _ q))

  pub printed : (front rest : List ℕ) (r : Bool) → front ≡ text_of bs → rest ≡ drop n bs → 1 ≤ n → n ≤ 15 → every printable front ≡ true
      → r ≡ bytes_eq rest (take (16 - n) (drop n (replicate 16 0))) → r ≡ well_formed bs
  printed front rest r e f h k p s =
      let q : every printable (text_of bs) ≡ true = ap (every printable) (sym e) ∙ p in
      let t : name_text (text_of bs) ≡ true = and_from _ _ (inside h k) q in
      rw t (s ∙ ap (λ (bytes : List ℕ). bytes_eq bytes (take (16 - n) (drop n (replicate {A = ℕ} 16 0)))) f ∙ sym (rest_zero k))

-- the rule in its own words
printable_decides : (b : ℕ) → Decides (printable b) ((32 ≤ b) × (b ≤ 126))
printable_decides b = Decides-and (leb 32 b) (leb b 126) (leb-true 32 b, le-leb 32 b) (leb-true b 126, le-leb b 126)

pub every_decides : {A : Type 0} (good : A → Bool) (P : A → Type 0) → ((x : A) → Decides (good x) (P x)) → (xs : List A) → Decides (every good xs) (AllByRecursion P xs)
every_decides good P h = Decides-by_and good P (every good) h refl (λ _ _. refl)

text_padded : (text : List ℕ) (k : ℕ) → AllByRecursion (λ b. (32 ≤ b) × (b ≤ 126)) text → text_of (text ++ replicate k 0) ≡ text
text_padded [] zero p = refl
text_padded [] (suc k) p = refl
text_padded (b ∷ text) k p =
    let z : eqb b 0 ≡ false = ne_eqb b 0 (λ e. omega (arith, p.0.0)) in
    rw z (ap (λ t. b ∷ t) (text_padded text k p.1))

to_name : (bs : List ℕ) → well_formed bs ≡ true → IsName bs
to_name bs h =
    let text = text_of bs in
    let both = and_parts (name_text text) (bytes_eq bs (padded text)) h in
    let named = and_parts (leb 1 (length text) && leb (length text) 15) (every printable text) both.0 in
    let sized = and_parts (leb 1 (length text)) (leb (length text) 15) named.0 in
    record {
      text = text;
      some = leb-true 1 (length text) sized.0;
      few = leb-true (length text) 15 sized.1;
      printed = (every_decides printable (λ b. (32 ≤ b) × (b ≤ 126)) printable_decides text).0 named.1;
      whole = (bytes_eq-Decides bs (padded text)).0 both.1;
    }

from_name : (bs : List ℕ) → IsName bs → well_formed bs ≡ true
from_name bs n =
    let text = n.text in
    let same : text_of bs ≡ text = ap text_of n.whole ∙ text_padded text (16 - length text) n.printed in
    let p : every printable text ≡ true = (every_decides printable (λ b. (32 ≤ b) × (b ≤ 126)) printable_decides text).1 n.printed in
    let s : bytes_eq bs (padded text) ≡ true = (bytes_eq-Decides bs (padded text)).1 n.whole in
    rw same (and_from _ _ (and_from _ _ (and_from _ _ (le-leb 1 (length text) n.some) (le-leb (length text) 15 n.few)) p) s)

pub name_rule : (bs : List ℕ) → Decides (well_formed bs) (IsName bs)
name_rule bs = (to_name bs, from_name bs)

pub name_rule_at : (bs : List ℕ) (r : Bool) → r ≡ well_formed bs → Decides r (IsName bs)
name_rule_at bs r e = Decides-at r (well_formed bs) e (name_rule bs)
