-- Runs of cars of one consist, collected along the train.
use Rattle.std.proofs.Common.{◌≡◌, ℕ, suc, ◌+◌, ◌<◌, ◌≤◌, Bool, true, false, cond, List, [], ◌∷◌, ◌++◌, map, length, get_or, drop, sym, refl, ap, ◌∙◌, ap₂, append_assoc, arith}
use Rattle.std.specs.Str.{bytes_eq}
use Rattle.std.proofs.lemmas.List.{drop_more, length_push}
use Rattle.std.proofs.lemmas.Slice.Eq.{bytes_eq-Decides}
use Rattle.train.specs.declared.identity.Identity.{Identity}
use Rattle.train.specs.Identities.{same_identity}
use Rattle.directory.specs.declared.cars.Car.{Car}
use Rattle.directory.specs.Sections.{Seat, firsts, seats, nobody}

abbrev pub ident : List ℕ → Identity
ident bs = record { bytes = bs }

length-firsts : (x : Identity) (cs : List Car) → length (firsts x cs) ≤ length cs
length-firsts x [] = omega arith
length-firsts x (c ∷ cs) = by (same_identity x c.consist) refl (length-firsts x cs) (length-firsts c.consist cs)
  where
    by : (b : Bool) → same_identity x c.consist ≡ b → length (firsts x cs) ≤ length cs → length (firsts c.consist cs) ≤ length cs → length (firsts x (c ∷ cs)) ≤ length (c ∷ cs)
    by true q p r = rw q (omega arith)
    by false q p r = rw q (omega arith)

pub firsts_few : (x : Identity) (cs : List Car) → length (firsts x cs) ≤ length cs
firsts_few = length-firsts

pub length-seats : (n : ℕ) (x : Identity) (cs : List Car) → length (seats n x cs) ≡ length cs
length-seats n x [] = refl
length-seats n x (c ∷ cs) = by (same_identity x c.consist) refl (length-seats n x cs) (length-seats (n + 1) c.consist cs)
  where
    by : (b : Bool) → same_identity x c.consist ≡ b → length (seats n x cs) ≡ length cs → length (seats (n + 1) c.consist cs) ≡ length cs → length (seats n x (c ∷ cs)) ≡ suc (length cs)
    by true q p r = rw q (ap suc p)
    by false q p r = rw q (ap suc r)

-- the rows that are collected, and what is left of the cars gives the others
pub record Collecting {A : Type 0} (g : Car → A) (cs : List Car) (i : ℕ) (prior : List ℕ) (table : List A) : Type 0 where
  pub left : table ++ map g (firsts (ident prior) (drop i cs)) ≡ map g (firsts nobody cs)
  pub few : length table ≤ i

-- the same for seats, one for each car
pub record Seating {A : Type 0} (g : Seat → A) (cs : List Car) (i run : ℕ) (prior : List ℕ) (table : List A) : Type 0 where
  pub left : table ++ map g (seats run (ident prior) (drop i cs)) ≡ map g (seats 0 nobody cs)
  pub few : run ≤ i
  pub long : length table ≡ i

module _ {A : Type 0} (g : Seat → A) (cs : List Car) {i run : ℕ} {prior : List ℕ} {table : List A} (s : Seating g cs i run prior table) where
  pub seating_more : (d : Car) (next : ℕ) (y : A) → i < length cs
      → next ≡ cond (bytes_eq prior (get_or cs i d).consist.bytes) run (run + 1) → next ≤ run + 1 → y ≡ g (record { car = get_or cs i d; run = next })
      → Seating g cs (i + 1) next (get_or cs i d).consist.bytes (table ++ y ∷ [])
  seating_more d next y h en few q =
      let c = get_or cs i d in
      record {
        left =
            append_assoc table (y ∷ []) (map g (seats next c.consist (drop (i + 1) cs)))
            ∙ ap (λ w. table ++ w ∷ map g (seats next c.consist (drop (i + 1) cs))) q
            ∙ ap (λ z. table ++ map g z) (by (bytes_eq prior c.consist.bytes) refl)
            ∙ ap (λ z. table ++ map g (seats run (ident prior) z)) (sym (drop_more cs i d h)) ∙ s.left;
        few = omega (arith, s.few);
        long = length_push table y ∙ ap (λ (n : ℕ). n + 1) s.long;
      }
    where
      by : (b : Bool) → bytes_eq prior (get_or cs i d).consist.bytes ≡ b
          → record { car = get_or cs i d; run = next } ∷ seats next (get_or cs i d).consist (drop (i + 1) cs) ≡ seats run (ident prior) (get_or cs i d ∷ drop (i + 1) cs)
      by true e =
          let n : next ≡ run = en ∙ ap (λ b. cond b run (run + 1)) e in
          let x : (get_or cs i d).consist ≡ ident prior = ap ident (sym ((bytes_eq-Decides prior (get_or cs i d).consist.bytes).0 e)) in
          ap₂ (λ k z. record { car = get_or cs i d; run = k } ∷ seats k z (drop (i + 1) cs)) n x
          ∙ sym (ap (λ b. cond b (record { car = get_or cs i d; run = run } ∷ seats run (ident prior) (drop (i + 1) cs)) (record { car = get_or cs i d; run = run + 1 } ∷ seats (run + 1) (get_or cs i d).consist (drop (i + 1) cs))) e)
      by false e =
          let n : next ≡ run + 1 = en ∙ ap (λ b. cond b run (run + 1)) e in
          ap (λ k. record { car = get_or cs i d; run = k } ∷ seats k (get_or cs i d).consist (drop (i + 1) cs)) n
          ∙ sym (ap (λ b. cond b (record { car = get_or cs i d; run = run } ∷ seats run (ident prior) (drop (i + 1) cs)) (record { car = get_or cs i d; run = run + 1 } ∷ seats (run + 1) (get_or cs i d).consist (drop (i + 1) cs))) e)
