-- Equal leading ends and equal compositions tell the facts.
use Rattle.std.proofs.Common.{◌≡◌, ℕ, ◌+◌, ◌/◌, ◌%◌, ◌^◌, ◌<◌, Bool, true, false, ◌⊎◌, List, [], ◌∷◌, ◌++◌, reverse, length, get_or, take, drop, Some, None, Option, sym, refl, ap, ◌∙◌, subst, inl, inr, ⊎_elim, append_assoc, arith}
use mathlib.Core.Path.{fun_ext}
use mathlib.Core.List.{map-map}
use Rattle.std.specs.List.{AllByRecursion}
use Rattle.std.proofs.ByRecursion.{All-weaker}
use Rattle.std.proofs.lemmas.Bool.{or_cases}
use Rattle.train.proofs.Equal.{same_identity_decides, same_identity_sym}
use Rattle.train.specs.declared.facing.Facing.{Facing}
use Rattle.train.specs.declared.facing.Facing.TheVariants.{NotKnown, Direct, Inverse}
use Rattle.train.specs.declared.entries.Coupled.{Coupled}
use Rattle.train.specs.Identities.{same_identity}
use Rattle.train.specs.declared.identity.Identity.{Identity}
use Rattle.bench.specs.declared.claims.Claim.{Claim}
use Rattle.fleet.specs.Fleets.{Consist, Meaning, vehicles_of, Lawful}
use Rattle.directory.proofs.Vocabulary.{Sixteen, identities, nowhere}
use Rattle.train.specs.Refusals.{among}
use Rattle.train.specs.Turning.{turned_list, turned_coupled}
use Rattle.directory.specs.Cars.{met}
use Rattle.bench.specs.Facts.{Facts}
use Rattle.directory.specs.Sections.{counter_of, rows, entry_row, four, operational_part, composition, leading_end}
use Rattle.directory.specs.Operation.{orientation}
use Rattle.directory.specs.Part.{leading_part}
use Rattle.directory.specs.Law.{IsFleet}
use Rattle.directory.proofs.Passes.{refuses}
use Rattle.directory.proofs.Turns.{reverse-map}
use Rattle.train.proofs.Turns.{turned_twice}
use Rattle.directory.proofs.RowTells.{fronts, code_tells}
use Rattle.directory.proofs.Blocks.{Cars, cars_tell}
use Rattle.directory.proofs.Alikes.{among-reverse}
use Rattle.directory.proofs.Kept.{Kept}
use Rattle.directory.proofs.Oriented.{turned_coupled_twice, Fitting, marks_tell}
use Rattle.directory.proofs.Forth.{led_core}
use Rattle.directory.proofs.Cut.{part_told, entry_row_long}
use Rattle.directory.proofs.Fine.{all_both, all_unmet, fine, fitting}

among_turned : (x : Identity) (es : List Coupled) → among same_identity x (identities (turned_list turned_coupled es)) ≡ among same_identity x (identities es)
among_turned x es = ap (among same_identity x) (map-map (λ e. e.identity) turned_coupled (reverse es) ∙ sym (reverse-map (λ e. e.identity) es)) ∙ among-reverse same_identity same_identity_sym x (identities es)

among_all : (P : Identity → Type 0) (x : Identity) (es : List Coupled) → AllByRecursion (λ d. P d.identity) es → among same_identity x (identities es) ≡ true → P x
among_all P x [] h e = nowhere (cc)
among_all P x (d ∷ es) h e =
    ⊎_elim
    (λ q. subst P (sym ((same_identity_decides x d.identity).0 q)) h.0)
    (λ q. among_all P x es h.1 q)
    (or_cases (same_identity x d.identity) (among same_identity x (identities es)) e)

-- no claim stands of a consist outside the formation
none_outside : (f : Facts) → Kept f → (x : Identity) → among same_identity x (identities f.formation) ≡ false → f.claims x ≡ None
none_outside f k x e = by (f.claims x) refl
  where
    by : (o : Option Claim) → f.claims x ≡ o → o ≡ None
    by None q = refl
    by (Some c) q = let z = (k.claims x c q).1 in nowhere (cc)

met_entries_tell : (o : Facing) (es fs : List Coupled) → met turned_coupled o es ≡ met turned_coupled o fs → es ≡ fs
met_entries_tell NotKnown es fs p = p
met_entries_tell Direct es fs p = p
met_entries_tell Inverse es fs p = sym (turned_twice turned_coupled turned_coupled_twice es) ∙ ap (turned_list turned_coupled) p ∙ turned_twice turned_coupled turned_coupled_twice fs

four_tells : (a b : ℕ) → a < 2 ^ 32 → b < 2 ^ 32 → four a ≡ four b → a ≡ b
four_tells a b h g p =
    let p0 : a / 2 ^ 24 % 256 ≡ b / 2 ^ 24 % 256 = cc in
    let p1 : a / 2 ^ 16 % 256 ≡ b / 2 ^ 16 % 256 = cc in
    let p2 : a / 2 ^ 8 % 256 ≡ b / 2 ^ 8 % 256 = cc in
    let p3 : a % 256 ≡ b % 256 = cc in
    omega arith

-- the counters of the first section
counters_tell : (m n : Meaning) (k : ℕ) (es : List Coupled) (s t : List ℕ) → AllByRecursion (λ e. Sixteen e.identity.bytes) es
    → rows (entry_row m) k es ++ s ≡ rows (entry_row n) k es ++ t → AllByRecursion (λ e. four (counter_of (m e.identity)) ≡ four (counter_of (n e.identity))) es
counters_tell m n k [] s t h p = tt
counters_tell m n k (e ∷ es) s t h p =
    let q : entry_row m k e ++ (rows (entry_row m) (k + 1) es ++ s) ≡ entry_row n k e ++ (rows (entry_row n) (k + 1) es ++ t) =
    sym (append_assoc (entry_row m k e) (rows (entry_row m) (k + 1) es) s) ∙ p ∙ append_assoc (entry_row n k e) (rows (entry_row n) (k + 1) es) t in
    let w = fronts (entry_row m k e) (entry_row n k e) _ _ (entry_row_long m k e h.0 ∙ sym (entry_row_long n k e h.0)) q in
    let v = fronts e.identity.bytes e.identity.bytes _ _ refl w.0 in
    (ap (take 4) v.1, counters_tell m n (k + 1) es s t h.1 w.1)

counter_small : (o : Option Consist) → Lawful o → counter_of o < 2 ^ 32
counter_small None h = omega arith
counter_small (Some c) h = let z = h.fits in omega arith

consist_same : (c d : Consist) → c.counter ≡ d.counter → c.vehicles ≡ d.vehicles → c ≡ d
consist_same c d p q = λ i. record { counter = p i; vehicles = q i }

option_same : (o q : Option Consist) → Lawful o → Lawful q → counter_of o ≡ counter_of q → vehicles_of o ≡ vehicles_of q → o ≡ q
option_same None None h g p r = refl
option_same None (Some d) h g p r = let z = g.counted in absurd (omega arith)
option_same (Some c) None h g p r = let z = h.counted in absurd (omega arith)
option_same (Some c) (Some d) h g p r = ap Some (consist_same c d p r)

module _ (f g : Facts) (m n : Meaning) (i j : ℕ) (kf : Kept f) (kg : Kept g) (mf : IsFleet m) (ng : IsFleet n) (ef : refuses f m i ≡ None) (eg : refuses g n j ≡ None) where
  tell : (d : Coupled) → Cars m n f.claims g.claims d → Fitting (length (vehicles_of (m d.identity))) (f.claims d.identity)
      → Fitting (length (vehicles_of (n d.identity))) (g.claims d.identity)
      → (vehicles_of (m d.identity) ≡ vehicles_of (n d.identity)) × (f.claims d.identity ≡ g.claims d.identity)
  tell d p q r =
      let w = cars_tell d.identity (f.claims d.identity) (g.claims d.identity) 1 (vehicles_of (m d.identity)) (vehicles_of (n d.identity)) p in
      (w.0, marks_tell (length (vehicles_of (m d.identity))) (f.claims d.identity) (g.claims d.identity) q (subst (λ z. Fitting (length z) (g.claims d.identity)) (sym w.0) r) w.1)

  among_alike : (g.formation ≡ f.formation) ⊎ (g.formation ≡ turned_list turned_coupled f.formation) → (x : Identity)
      → among same_identity x (identities g.formation) ≡ among same_identity x (identities f.formation)
  among_alike (inl e) x = ap (λ z. among same_identity x (identities z)) e
  among_alike (inr e) x = ap (λ z. among same_identity x (identities z)) e ∙ among_turned x f.formation

  -- equal leading ends
  pub led_told : leading_end f m ≡ leading_end g n
      → (f.claims ≡ g.claims) × (f.confirmed ≡ g.confirmed) × AllByRecursion (λ e. vehicles_of (m e.identity) ≡ vehicles_of (n e.identity)) f.formation × ((g.formation ≡ f.formation) ⊎ (g.formation ≡ turned_list turned_coupled f.formation)) × (met turned_coupled (orientation f) f.formation ≡ met turned_coupled (orientation g) g.formation)
  led_told p =
      let c = led_core f g m n (fine f m i kf mf ef) (fine g n j kg ng eg) p in
      let ahead : List Coupled = met turned_coupled (orientation f) f.formation in
      let right : AllByRecursion (λ d. Fitting (length (vehicles_of (n d.identity))) (g.claims d.identity)) ahead =
      subst (AllByRecursion (λ d. Fitting (length (vehicles_of (n d.identity))) (g.claims d.identity))) (sym c.2) (fitting g n j kg ng eg) in
      let both : AllByRecursion (λ d. (vehicles_of (m d.identity) ≡ vehicles_of (n d.identity)) × (f.claims d.identity ≡ g.claims d.identity)) ahead =
      All-weaker _ _ (λ d w. tell d w.0 w.1.0 w.1.1) ahead
      (all_both (Cars m n f.claims g.claims) (λ d. Fitting (length (vehicles_of (m d.identity))) (f.claims d.identity) × Fitting (length (vehicles_of (n d.identity))) (g.claims d.identity)) ahead c.3
      (all_both (λ d. Fitting (length (vehicles_of (m d.identity))) (f.claims d.identity)) (λ d. Fitting (length (vehicles_of (n d.identity))) (g.claims d.identity)) ahead (fitting f m i kf mf ef) right)) in
      let here = all_unmet (λ d. (vehicles_of (m d.identity) ≡ vehicles_of (n d.identity)) × (f.claims d.identity ≡ g.claims d.identity)) (λ d z. z) (orientation f) f.formation both in
      (fun_ext (λ x. by c.1 (All-weaker _ _ (λ d w. w.1) f.formation here) x (among same_identity x (identities f.formation)) refl), c.0, All-weaker _ _ (λ d w. w.0) f.formation here, c.1, c.2)
    where
      by : (g.formation ≡ f.formation) ⊎ (g.formation ≡ turned_list turned_coupled f.formation)
          → AllByRecursion (λ d. f.claims d.identity ≡ g.claims d.identity) f.formation → (x : Identity) (b : Bool) → among same_identity x (identities f.formation) ≡ b
          → f.claims x ≡ g.claims x
      by o h x true q = among_all (λ y. f.claims y ≡ g.claims y) x f.formation h q
      by o h x false q = none_outside f kf x q ∙ sym (none_outside g kg x (among_alike o x ∙ q))

  -- equal compositions
  pub same_told : composition f m ≡ composition g n → (f ≡ g) × AllByRecursion (λ e. m e.identity ≡ n e.identity) f.formation
  same_told p =
      let a = fine f m i kf mf ef in
      let b = fine g n j kg ng eg in
      let w = led_told (sym (part_told f m kf.sixteen a.consists a.named) ∙ ap leading_part p ∙ part_told g n kg.sixteen b.consists b.named) in
      let o : orientation f ≡ orientation g = code_tells (orientation f) (orientation g) (ap (λ z. get_or z 2 0) p) in
      let fe : f.formation ≡ g.formation = met_entries_tell (orientation f) f.formation g.formation (w.4 ∙ ap (λ z. met turned_coupled z g.formation) (sym o)) in
      let etb : f.etb ≡ g.etb = four_tells f.etb g.etb kf.etb kg.etb (ap (λ z. take 4 (drop 4 z)) p) in
      let r : rows (entry_row m) 1 f.formation ++ operational_part f m ≡ rows (entry_row n) 1 f.formation ++ operational_part g n =
      ap (λ z. drop 17 z) p ∙ ap (λ z. rows (entry_row n) 1 z ++ operational_part g n) (sym fe) in
      let cs = counters_tell m n 1 f.formation (operational_part f m) (operational_part g n) kf.sixteen r in (
        λ k. record { etb = etb k; formation = fe k; claims = w.0 k; confirmed = w.1 k },
        All-weaker _ _ (λ e z. option_same (m e.identity) (n e.identity) (mf e.identity) (ng e.identity) (four_tells _ _ (counter_small (m e.identity) (mf e.identity)) (counter_small (n e.identity) (ng e.identity)) z.0) z.1) f.formation (all_both (λ e. four (counter_of (m e.identity)) ≡ four (counter_of (n e.identity))) (λ e. vehicles_of (m e.identity) ≡ vehicles_of (n e.identity)) f.formation cs w.2),
      )
