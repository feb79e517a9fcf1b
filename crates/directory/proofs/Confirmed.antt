-- The confirmed list and the train's cars, read back from the operational order.
use Rattle.std.proofs.Common.{◌≡◌, Bool, true, false, not, List, [], ◌∷◌, map, filter, sym, refl, ap, ◌∙◌, ap₂}
use mathlib.Core.List.{map-map}
use Rattle.std.specs.List.{AllByRecursion}
use Rattle.std.proofs.lemmas.Bool.{and_parts, or_parts}
use Rattle.train.proofs.Equal.{same_name_decides, same_name_sym}
use Rattle.train.specs.Identities.{same_name}
use Rattle.train.specs.declared.name.Name.{Name}
use Rattle.train.specs.Refusals.{among}
use Rattle.directory.proofs.Vocabulary.{apart, blank, nowhere}
use Rattle.directory.specs.declared.cars.Car.{Car}
use Rattle.directory.specs.Operation.{pick, names}
use Rattle.directory.specs.Composing.{struck, same_names}
use Rattle.directory.proofs.Turns.{map_same}

abbrev pub own : Car → Bool
own c = not (blank c.consist)

pick_named : (cs : List Car) (n : Name) → (pick cs n).name ≡ n
pick_named [] n = refl
pick_named (c ∷ cs) n = by (pick_named cs n) (same_name n c.name) refl
  where
    by : (pick cs n).name ≡ n → (b : Bool) → same_name n c.name ≡ b → (pick (c ∷ cs) n).name ≡ n
    by r true e = rw e (sym ((same_name_decides n c.name).0 e))
    by r false e = rw e r

pub confirmed_told : (cs : List Car) (ns : List Name) → names (map (pick cs) ns) ≡ ns
confirmed_told cs ns = map-map (λ c. c.name) (pick cs) ns ∙ map_same (λ n. (pick cs n).name) (pick_named cs) ns

pick_own : (cs : List Car) (n : Name) → AllByRecursion (λ c. own c ≡ true) cs → own (pick cs n) ≡ among same_name n (names cs)
pick_own [] n h = refl
pick_own (c ∷ cs) n h = by (pick_own cs n h.1) (same_name n c.name) refl
  where
    by : own (pick cs n) ≡ among same_name n (names cs) → (b : Bool) → same_name n c.name ≡ b → own (pick (c ∷ cs) n) ≡ among same_name n (names (c ∷ cs))
    by r true e = rw e h.0
    by r false e = rw e r

own_told : (cs : List Car) (ns : List Name) → AllByRecursion (λ c. own c ≡ true) cs → filter own (map (pick cs) ns) ≡ map (pick cs) (struck (names cs) ns)
own_told cs [] h = refl
own_told cs (n ∷ ns) h = by (own_told cs ns h) (among same_name n (names cs)) refl
  where
    by : filter own (map (pick cs) ns) ≡ map (pick cs) (struck (names cs) ns) → (b : Bool) → among same_name n (names cs) ≡ b
        → filter own (map (pick cs) (n ∷ ns)) ≡ map (pick cs) (struck (names cs) (n ∷ ns))
    by r true e = rw (pick_own cs n h, e) (ap (λ z. pick cs n ∷ z) r)
    by r false e = rw (pick_own cs n h, e) r

same_names_equal : (xs ys : List Name) → same_names xs ys ≡ true → xs ≡ ys
same_names_equal [] [] e = refl
same_names_equal [] (y ∷ ys) e = nowhere (cc)
same_names_equal (x ∷ xs) [] e = nowhere (cc)
same_names_equal (x ∷ xs) (y ∷ ys) e = let w = and_parts (same_name x y) (same_names xs ys) e in ap₂ (λ a b. a ∷ b) ((same_name_decides x y).0 w.0) (same_names_equal xs ys w.1)

pick_skip : (c : Car) (cs : List Car) (ns : List Name) → among same_name c.name ns ≡ false → map (pick (c ∷ cs)) ns ≡ map (pick cs) ns
pick_skip c cs [] e = refl
pick_skip c cs (n ∷ ns) e =
    let w = or_parts (same_name c.name n) (among same_name c.name ns) e in
    let q : same_name n c.name ≡ false = same_name_sym n c.name ∙ w.0 in
    rw q (ap (λ z. pick cs n ∷ z) (pick_skip c cs ns w.1))

pick_self : (cs : List Car) → apart same_name (names cs) ≡ true → map (pick cs) (names cs) ≡ cs
pick_self [] e = refl
pick_self (c ∷ cs) e = by (λ h. pick_self cs h) (among same_name c.name (names cs)) refl
  where
    by : (apart same_name (names cs) ≡ true → map (pick cs) (names cs) ≡ cs) → (b : Bool) → among same_name c.name (names cs) ≡ b
        → map (pick (c ∷ cs)) (names (c ∷ cs)) ≡ c ∷ cs
    by r true q = let z = rw q at e in nowhere (cc)
    by r false q =
        let z : apart same_name (names cs) ≡ true = rw q at e in
        ap₂ (λ a b. a ∷ b) (rw ((same_name_decides c.name c.name).1 refl)) (pick_skip c cs (names cs) q ∙ r z)

-- the train's cars, from the operational order
pub cars_told : (cs : List Car) (ns : List Name) → AllByRecursion (λ c. own c ≡ true) cs → apart same_name (names cs) ≡ true → same_names (struck (names cs) ns) (names cs) ≡ true
    → filter own (map (pick cs) ns) ≡ cs
cars_told cs ns h d e = own_told cs ns h ∙ ap (map (pick cs)) (same_names_equal (struck (names cs) ns) (names cs) e) ∙ pick_self cs d
