-- Equal leading ends of two fine facts: one confirmed list, one formation or its turn, one train.
use Rattle.std.proofs.Common.{◌≡◌, ℕ, true, false, cond, eqb, ◌⊎◌, List, [], ◌∷◌, length, filter, sym, refl, ap, ◌∙◌, arith}
use Rattle.std.specs.List.{AllByRecursion}
use Rattle.std.proofs.lemmas.Bool.{ne_eqb}
use Rattle.train.specs.declared.facing.Facing.TheVariants.{NotKnown}
use Rattle.train.specs.Identities.{same_name}
use Rattle.directory.specs.Sections.{nobody, firsts, seats, operational_sections, leading_end, status}
use Rattle.train.specs.declared.name.Name.{Name}
use Rattle.fleet.specs.Fleets.{Meaning}
use Rattle.directory.proofs.Vocabulary.{Known, Sixteen, apart}
use Rattle.train.specs.Turning.{turned_list, turned_coupled}
use Rattle.directory.specs.Cars.{met, train}
use Rattle.bench.specs.Facts.{Facts}
use Rattle.directory.specs.declared.cars.Car.{Car}
use Rattle.directory.specs.Operation.{names, ordered, operational, from_head, orientation}
use Rattle.directory.specs.Composing.{in_order}
use Rattle.directory.proofs.RowTells.{none, sections_tell}
use Rattle.directory.proofs.Recover.{Uniform, read_back}
use Rattle.directory.proofs.Confirmed.{own, confirmed_told, cars_told}
use Rattle.directory.proofs.Blocks.{Distinct, Full, Cars, train_tells}
use Rattle.directory.proofs.Oriented.{train_met, met_alike}

pub record Fine (f : Facts) (m : Meaning) : Type 0 where
  pub known : AllByRecursion (λ e. Known e.facing) f.formation
  pub way : Known (orientation f)
  pub distinct : Distinct (met turned_coupled (orientation f) f.formation)
  pub full : AllByRecursion (Full m) (met turned_coupled (orientation f) f.formation)
  pub uniform : Uniform nobody NotKnown (operational f m)
  pub consists : AllByRecursion (λ c. Sixteen c.consist.bytes) (firsts nobody (operational f m))
  pub named : AllByRecursion (λ s. Sixteen s.car.name.bytes) (seats 0 nobody (operational f m))
  pub owned : AllByRecursion (λ c. own c ≡ true) (from_head f m)
  pub distinctly : apart same_name (names (from_head f m)) ≡ true
  pub order : in_order f.confirmed (names (from_head f m)) ≡ true

order_tells : (ns ks : List Name) (cs ds : List Car) → AllByRecursion (λ c. own c ≡ true) cs → AllByRecursion (λ c. own c ≡ true) ds → apart same_name (names cs) ≡ true
    → apart same_name (names ds) ≡ true → in_order ns (names cs) ≡ true → in_order ks (names ds) ≡ true
    → ◌≡◌ {A = ℕ} (cond (eqb 0 (length ns)) 1 2) (cond (eqb 0 (length ks)) 1 2) → ordered ns cs ≡ ordered ks ds → (ns ≡ ks) × (cs ≡ ds)
order_tells [] [] cs ds h g a b i j s p = (refl, p)
order_tells [] (k ∷ ks) cs ds h g a b i j s p =
    let q : eqb 0 (length (k ∷ ks)) ≡ false = ne_eqb 0 (length (k ∷ ks)) (λ z. omega arith) in
    let z : ◌≡◌ {A = ℕ} 1 2 = rw q at s in
    absurd (omega arith)
order_tells (n ∷ ns) [] cs ds h g a b i j s p =
    let q : eqb 0 (length (n ∷ ns)) ≡ false = ne_eqb 0 (length (n ∷ ns)) (λ z. omega arith) in
    let z : ◌≡◌ {A = ℕ} 2 1 = rw q at s in
    absurd (omega arith)
order_tells (n ∷ ns) (k ∷ ks) cs ds h g a b i j s p =
    let e : n ∷ ns ≡ k ∷ ks = sym (confirmed_told cs (n ∷ ns)) ∙ ap names p ∙ confirmed_told ds (k ∷ ks) in
    (e, sym (cars_told cs (n ∷ ns) h a i) ∙ ap (filter own) p ∙ cars_told ds (k ∷ ks) g b j)

pub led_core : (f g : Facts) (m n : Meaning) → Fine f m → Fine g n → leading_end f m ≡ leading_end g n
    → (f.confirmed ≡ g.confirmed) × ((g.formation ≡ f.formation) ⊎ (g.formation ≡ turned_list turned_coupled f.formation)) × (met turned_coupled (orientation f) f.formation ≡ met turned_coupled (orientation g) g.formation) × AllByRecursion (Cars m n f.claims g.claims) (met turned_coupled (orientation f) f.formation)
led_core f g m n h k p =
    let st : status f ≡ status g = ap (λ z. head_or z) p in
    let se : operational_sections none none (operational f m) ≡ operational_sections none none (operational g n) = ap tail_of p in
    let w = sections_tell (operational f m) (operational g n) h.consists k.consists h.named k.named se in
    let o : operational f m ≡ operational g n = read_back 0 nobody NotKnown (operational f m) (operational g n) h.uniform k.uniform w.0 w.1 in
    let c = order_tells f.confirmed g.confirmed (from_head f m) (from_head g n) h.owned k.owned h.distinctly k.distinctly h.order k.order st o in
    let t : train m f.claims (met turned_coupled (orientation f) f.formation) ≡ train n g.claims (met turned_coupled (orientation g) g.formation) =
    sym (train_met m f.claims (orientation f) f.formation h.known) ∙ c.1 ∙ train_met n g.claims (orientation g) g.formation k.known in
    let r = train_tells m n f.claims g.claims _ _ h.distinct k.distinct h.full k.full t in
    (c.0, met_alike (orientation f) (orientation g) f.formation g.formation h.way k.way r.0, r.0, r.1)
  where
    head_or : List ℕ → ℕ
    head_or [] = 0
    head_or (x ∷ xs) = x

    tail_of : List ℕ → List ℕ
    tail_of [] = []
    tail_of (x ∷ xs) = xs
