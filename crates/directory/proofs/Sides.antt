-- The law of two runs.
use Rattle.std.proofs.Common.{◌≡◌, ℕ, ◌≤◌, leb, ◌⊎◌, ◌↔◌, List, [], ◌∷◌, reverse, length, Some, None, Decides, Option, sym, refl, ap, ◌∙◌, subst, ap₂, inl, inr, arith}
use mathlib.Core.Path.{fun_ext}
use Rattle.std.proofs.lemmas.Bool.{leb-true, le-leb}
use Rattle.std.specs.List.{AllByRecursion}
use Rattle.std.proofs.ByRecursion.{All-map}
use Rattle.train.specs.declared.facing.Facing.TheVariants.{Direct}
use Rattle.train.specs.declared.identity.Identity.{Identity}
use Rattle.train.specs.declared.name.Name.{Name}
use Rattle.train.specs.declared.entries.Coupled.{Coupled}
use Rattle.train.specs.Turning.{turned_list, turned_coupled}
use Rattle.train.proofs.Turns.{turned_twice}
use Rattle.bench.specs.declared.claims.Claim.{Claim}
use Rattle.bench.specs.Facts.{Facts}
use Rattle.bench.specs.Standing.{Fact, Stands, Holds}
use Rattle.bench.specs.Standing.Fact.{coupled, claimed, listed}
use Rattle.bench.proofs.Runs.{stands, alike, told_alike}
use Rattle.bench.proofs.Accepting.{accepted_as_told}
use Rattle.directory.specs.Cars.{met}
use Rattle.directory.specs.Operation.{Lead, leads, orient, orientation, operational}
use Rattle.directory.specs.Sections.{composition, operational_sections, leading_end, status}
use Rattle.directory.specs.Composing.{Outcome, composed_into}
use Rattle.directory.specs.Composing.Outcome.{written}
use Rattle.directory.specs.Part.{leading_part, Sections}
use Rattle.directory.specs.Law.{IsFleet, Side, facts, answer, Formed, Led, SameFacts, SameClaims, SameList, SameFormation, TurnedFormation, SaySame, SameLead, SameUnled, OnlyTurned, Alike, SideLaws, Joint}
use Rattle.directory.proofs.Vocabulary.{Known}
use Rattle.directory.proofs.Kept.{run_keeps, claims_same, some_formed, leads_some, leads_claim, leads_all}
use Rattle.directory.proofs.Turns.{length_turned}
use Rattle.directory.proofs.Blocks.{all_reverse}
use Rattle.directory.proofs.Alikes.{turn_facts, turns_alike, same_operational}
use Rattle.directory.proofs.Asks.{composition_cong, composed_into_cong, train_vehicles}
use Rattle.directory.proofs.Passes.{refuses, written_is, passed}
use Rattle.directory.proofs.Oriented.{turned_coupled_twice}
use Rattle.directory.proofs.Cut.{part_told, sections_told}
use Rattle.directory.proofs.Fine.{fine, orient_known}
use Rattle.directory.proofs.Order.{head_told}
use Rattle.directory.proofs.Leading.{orient_at}
use Rattle.directory.proofs.Told.{led_told, same_told}

-- The facts of two runs, from what they hold.
lists_same : (f g : Facts) → ((ns : List Name) → Holds f (listed ns) ↔ Holds g (listed ns)) → f.confirmed ≡ g.confirmed
lists_same f g h = by f.confirmed g.confirmed refl refl
  where
    by : (a b : List Name) → f.confirmed ≡ a → g.confirmed ≡ b → f.confirmed ≡ g.confirmed
    by [] [] p q = p ∙ sym q
    by [] (k ∷ ks) p q = ((h (k ∷ ks)).1 (q, omega arith)).0 ∙ sym q
    by (n ∷ ns) b p q = p ∙ sym ((h (n ∷ ns)).0 (p, omega arith)).0

holds_same : (f g : Facts) → f ≡ g → (fact : Fact) → Holds f fact ↔ Holds g fact
holds_same f g e fact = (subst (λ z. Holds z fact) e, subst (λ z. Holds z fact) (sym e))

claimed_same : (f g : Facts) → f.claims ≡ g.claims → (x : Identity) (c : Claim) → Holds f (claimed x c) ↔ Holds g (claimed x c)
claimed_same f g e x c = (λ p. sym (ap (λ z. z x) e) ∙ p, λ p. ap (λ z. z x) e ∙ p)

listed_same : (f g : Facts) → f.confirmed ≡ g.confirmed → (ns : List Name) → Holds f (listed ns) ↔ Holds g (listed ns)
listed_same f g e ns = (λ p. (sym e ∙ p.0, p.1), λ p. (e ∙ p.0, p.1))

no_leads : (es : List Coupled) → leads (λ _. None) es ≡ []
no_leads [] = refl
no_leads (e ∷ es) = no_leads es

-- without a claim the head is where the formation begins
unled_direct : (f : Facts) → f.claims ≡ (λ _. None) → orientation f ≡ Direct
unled_direct f e = ap (λ z. orient (leads z f.formation)) e ∙ ap orient (no_leads f.formation)

no_claims : (s : Side) → (Led s → ⊥) → (facts s).claims ≡ (λ _. None)
no_claims s h = fun_ext (λ x. by x ((facts s).claims x) refl)
  where
    by : (x : Identity) (o : Option Claim) → (facts s).claims x ≡ o → o ≡ None
    by x None q = refl
    by x (Some c) q = absurd (h (x, c, (stands s.run (claimed x c)).0 q))

-- One side.
module _ (s : Side) where
  standing_formed : 1 ≤ length (facts s).formation → Stands s.run (coupled (facts s).etb (facts s).formation)
  standing_formed h = (stands s.run (coupled (facts s).etb (facts s).formation)).0 (refl, refl, h)

  formed_is : (es : List Coupled) → Formed s es → ((facts s).formation ≡ es) × (1 ≤ length es)
  formed_is es h = let w = (stands s.run (coupled h.0 es)).1 h.1 in (w.1, w.2)

  is_formed : (es : List Coupled) → (facts s).formation ≡ es → 1 ≤ length es → Formed s es
  is_formed es e h = ((facts s).etb, (stands s.run (coupled (facts s).etb es)).0 (refl, e, h))

  -- what holds of the formation of the facts holds of the one that stands
  on_formed : (P : Coupled → Type 0) → AllByRecursion P (facts s).formation → (es : List Coupled) → Formed s es → AllByRecursion P es
  on_formed P h es w = subst (AllByRecursion P) (formed_is es w).0 h

  led_some : Led s → 1 ≤ length (leads (facts s).claims (facts s).formation)
  led_some led =
      let p : (facts s).claims led.0 ≡ Some led.1 = (stands s.run (claimed led.0 led.1)).1 led.2 in
      leads_some (facts s).claims led.0 led.1 (facts s).formation p ((run_keeps s.run).claims led.0 led.1 p).1

  -- a claim stands where one is counted along the formation
  pub led_decides : (n : ℕ) → n ≡ length (leads (facts s).claims (facts s).formation) → Decides (leb 1 n) (Led s)
  led_decides n e = (
    λ h. let w = leads_claim (facts s).claims (facts s).formation (let k = leb-true 1 n h in omega arith) in (w.0, w.1, (stands s.run (claimed w.0 w.1)).0 w.2),
    λ led. let k = led_some led in le-leb 1 n (omega arith),
  )

  led_formed : Led s → 1 ≤ length (facts s).formation
  led_formed led = some_formed led.0 (facts s).formation ((run_keeps s.run).claims led.0 led.1 ((stands s.run (claimed led.0 led.1)).1 led.2)).1

  ways : AllByRecursion (λ (l : Lead). Known l.at.direction × Known l.entry.facing) (leads (facts s).claims (facts s).formation)
  ways = let k = run_keeps s.run in leads_all (facts s).claims _ (facts s).formation (λ e c p q. ((k.claims e.identity c p).0, q)) k.facings

  says : (b : List ℕ) → answer s ≡ written b → (composition (facts s) s.fleet ≡ b) × (refuses (facts s) s.fleet s.room ≡ None)
  says b p = written_is (refuses (facts s) s.fleet s.room) (composition (facts s) s.fleet) b p

  pub reads : IsFleet s.fleet → SideLaws s (answer s)
  reads m =
      record {
        stand = stands s.run;
        taken = accepted_as_told s.run;
        direct = λ h. unled_direct (facts s) (no_claims s h);
        oriented = λ b p x c es h g. on_formed _ (orient_at (facts s).claims x c ((stands s.run (claimed x c)).1 h) (facts s).formation (passed (facts s) s.fleet s.room (says b p).1).single) es g;
        order = head_told (facts s) s.fleet (run_keeps s.run).facings (orient_known (leads (facts s).claims (facts s).formation) ways);
        part = λ b p.
            let w = says b p in
            let a = fine (facts s) s.fleet s.room (run_keeps s.run) m w.1 in
            ap leading_part (sym w.0) ∙ part_told (facts s) s.fleet (run_keeps s.run).sixteen a.consists a.named;
      }

  -- what is written has its three sections
  pub sections_of : IsFleet s.fleet → (b : List ℕ) → answer s ≡ written b → Sections b
  sections_of m b p =
      let w = says b p in
      let a = fine (facts s) s.fleet s.room (run_keeps s.run) m w.1 in
      subst Sections w.0 (sections_told (facts s) s.fleet (run_keeps s.run).sixteen a.consists a.named)

-- Two sides.
module _ (l r : Side) where
  claims_told : SameClaims l r → (facts l).claims ≡ (facts r).claims
  claims_told h = claims_same _ _ (λ x c. told_alike l.run r.run (claimed x c) (claimed x c) (h x c))

  list_told : SameList l r → (facts l).confirmed ≡ (facts r).confirmed
  list_told h = lists_same (facts l) (facts r) (λ ns. told_alike l.run r.run (listed ns) (listed ns) (h ns))

  same_claims : (facts l).claims ≡ (facts r).claims → SameClaims l r
  same_claims e x c = alike l.run r.run (claimed x c) (claimed x c) (claimed_same (facts l) (facts r) e x c)

  same_list : (facts l).confirmed ≡ (facts r).confirmed → SameList l r
  same_list e ns = alike l.run r.run (listed ns) (listed ns) (listed_same (facts l) (facts r) e ns)

  same_formation : (facts r).formation ≡ (facts l).formation → SameFormation l r
  same_formation e es = (
    λ w. let v = formed_is l es w in is_formed r es (e ∙ v.0) v.1,
    λ w. let v = formed_is r es w in is_formed l es (sym e ∙ v.0) v.1,
  )

  turned_formation : (facts r).formation ≡ turned_list turned_coupled (facts l).formation → TurnedFormation l r
  turned_formation e es = (
    λ w. let v = formed_is l es w in is_formed r (turned_list turned_coupled es) (e ∙ ap (turned_list turned_coupled) v.0) (let z = length_turned turned_coupled es in let y = v.1 in omega arith),
    λ w. let v = formed_is r (turned_list turned_coupled es) w in
        is_formed l es (sym (turned_twice turned_coupled turned_coupled_twice (facts l).formation) ∙ ap (turned_list turned_coupled) (sym e ∙ v.0) ∙ turned_twice turned_coupled turned_coupled_twice es) (let z = length_turned turned_coupled es in let y = v.1 in omega arith),
  )

  -- equal compositions, from the facts to the bytes
  pub same_back : (b c : List ℕ) → answer l ≡ written b → answer r ≡ written c → SameFacts l r × SaySame l r → b ≡ c
  same_back b c p q h =
      let u = says l b p in
      let f = standing_formed l (passed (facts l) l.fleet l.room u.1).formed in
      let w = (stands r.run (coupled (facts l).etb (facts l).formation)).1 ((h.0 (coupled (facts l).etb (facts l).formation)).0 f) in
      let cl = claims_told (λ x c. h.0 (claimed x c)) in
      let li = list_told (λ ns. h.0 (listed ns)) in
      let e : facts l ≡ facts r = λ i. record { etb = sym w.0 i; formation = sym w.1 i; claims = cl i; confirmed = li i } in
      sym u.0
      ∙ composition_cong l.fleet r.fleet (facts l) (h.1 (facts l).formation ((facts l).etb, f))
      ∙ ap (λ z. composition z r.fleet) e
      ∙ (says r c q).0

  ends_alike : Led l → refuses (facts l) l.fleet l.room ≡ None → (facts l).claims ≡ (facts r).claims → (facts l).confirmed ≡ (facts r).confirmed
      → ((facts r).formation ≡ (facts l).formation) ⊎ ((facts r).formation ≡ turned_list turned_coupled (facts l).formation)
      → leading_end (facts l) r.fleet ≡ leading_end (facts r) r.fleet
  ends_alike led u cl co (inl e) = λ i. leading_end (record { etb = (facts r).etb; formation = sym e i; claims = cl i; confirmed = co i }) r.fleet
  ends_alike led u cl co (inr e) =
      let s : operational (turn_facts (facts l)) r.fleet ≡ operational (facts l) r.fleet =
      same_operational (facts l) r.fleet l.room (run_keeps l.run).facings (led_some l led) (ways l) (passed (facts l) l.fleet l.room u).single in
      let t : leading_end (facts l) r.fleet ≡ leading_end (turn_facts (facts l)) r.fleet = ap (λ z. status (facts l) ∷ operational_sections (λ _. []) (λ _. []) z) (sym s) in
      t ∙ (λ i. leading_end (record { etb = (facts r).etb; formation = sym e i; claims = cl i; confirmed = co i }) r.fleet)

  formations_told : 1 ≤ length (facts l).formation → SameFormation l r ⊎ TurnedFormation l r
      → ((facts r).formation ≡ (facts l).formation) ⊎ ((facts r).formation ≡ turned_list turned_coupled (facts l).formation)
  formations_told h (inl e) = inl (formed_is r (facts l).formation ((e (facts l).formation).0 (is_formed l (facts l).formation refl h))).0
  formations_told h (inr e) = inr (formed_is r (turned_list turned_coupled (facts l).formation) ((e (facts l).formation).0 (is_formed l (facts l).formation refl h))).0

  -- equal leading ends, from the facts to the bytes
  pub led_back : (b c : List ℕ) → SideLaws l (answer l) → SideLaws r (answer r) → answer l ≡ written b → answer r ≡ written c → Led l → SameLead l r → leading_part b ≡ leading_part c
  led_back b c rl rr p q led h =
      let f = led_formed l led in
      let first : leading_end (facts l) l.fleet ≡ leading_end (facts l) r.fleet =
      simp (train_vehicles l.fleet r.fleet (facts l).claims (facts l).formation (h.vehicles (facts l).formation (is_formed l (facts l).formation refl f))) in
      rl.part b p ∙ first ∙ ends_alike led (says l b p).1 (claims_told h.claims) (list_told h.confirmed) (formations_told f h.formations) ∙ sym (rr.part c q)

  pub unled_back : (b c : List ℕ) → SideLaws l (answer l) → SideLaws r (answer r) → answer l ≡ written b → answer r ≡ written c → SameUnled l r → leading_part b ≡ leading_part c
  unled_back b c rl rr p q h =
      let f = (passed (facts l) l.fleet l.room (says l b p).1).formed in
      let first : leading_end (facts l) l.fleet ≡ leading_end (facts l) r.fleet =
      simp (train_vehicles l.fleet r.fleet (facts l).claims (facts l).formation (h.vehicles (facts l).formation (is_formed l (facts l).formation refl f))) in
      let cl = claims_told h.claims in
      let co = list_told h.confirmed in
      let e = (formed_is r (facts l).formation ((h.formation (facts l).formation).0 (is_formed l (facts l).formation refl f))).0 in
      let second : leading_end (facts l) r.fleet ≡ leading_end (facts r) r.fleet =
      λ i. leading_end (record { etb = (facts r).etb; formation = sym e i; claims = cl i; confirmed = co i }) r.fleet in
      rl.part b p ∙ first ∙ second ∙ sym (rr.part c q)

  -- a turned formation
  pub turns : OnlyTurned l r → Led l → Alike (answer l) (answer r)
  turns h led =
      let f : Facts = facts l in
      let st = standing_formed l (led_formed l led) in
      let w = (stands r.run (coupled f.etb (turned_list turned_coupled f.formation))).1 ((h.coupling f.etb f.formation).0 st) in
      let main : Alike (composed_into f l.fleet l.room) (composed_into (turn_facts f) l.fleet l.room) =
      turns_alike f l.fleet l.room (run_keeps l.run).facings (led_some l led) (ways l) in
      let cl = claims_told h.claims in
      let co = list_told h.confirmed in
      let g : turn_facts f ≡ facts r = λ i. record { etb = sym w.0 i; formation = sym w.1 i; claims = cl i; confirmed = co i } in
      let same : AllByRecursion (λ e. l.fleet e.identity ≡ r.fleet e.identity) (turned_list turned_coupled f.formation) =
      All-map _ turned_coupled (reverse f.formation) (all_reverse _ f.formation (h.fleets f.formation (f.etb, st))) in
      let e : composed_into (turn_facts f) l.fleet l.room ≡ composed_into (facts r) r.fleet r.room =
      composed_into_cong l.fleet r.fleet (turn_facts f) l.room same ∙ ap₂ (λ u v. composed_into u r.fleet v) g h.rooms in
      subst (Alike (answer l)) e main

module _ (l r : Side) (ml : IsFleet l.fleet) (mr : IsFleet r.fleet) (b c : List ℕ) (p : answer l ≡ written b) (q : answer r ≡ written c) where
  -- equal compositions, from the bytes to the facts
  pub same_forth : b ≡ c → SameFacts l r × SaySame l r
  same_forth e =
      let u = says l b p in
      let v = says r c q in
      let w = same_told (facts l) (facts r) l.fleet r.fleet l.room r.room (run_keeps l.run) (run_keeps r.run) ml mr u.1 v.1 (u.0 ∙ e ∙ sym v.0) in
      (λ fact. alike l.run r.run fact fact (holds_same (facts l) (facts r) w.0 fact), on_formed l _ w.1)

  -- equal leading ends, from the bytes to the facts
  pub led_forth : leading_part b ≡ leading_part c → SameLead l r
  led_forth e =
      let w = led_told (facts l) (facts r) l.fleet r.fleet l.room r.room (run_keeps l.run) (run_keeps r.run) ml mr (says l b p).1 (says r c q).1 (sym ((reads l ml).part b p) ∙ e ∙ (reads r mr).part c q) in
      record { claims = same_claims l r w.0; confirmed = same_list l r w.1; vehicles = on_formed l _ w.2; formations = by w.3 }
    where
      by : ((facts r).formation ≡ (facts l).formation) ⊎ ((facts r).formation ≡ turned_list turned_coupled (facts l).formation) → SameFormation l r ⊎ TurnedFormation l r
      by (inl z) = inl (same_formation l r z)
      by (inr z) = inr (turned_formation l r z)

  pub unled_forth : (Led l → ⊥) → leading_part b ≡ leading_part c → SameUnled l r
  unled_forth none e =
      let w = led_told (facts l) (facts r) l.fleet r.fleet l.room r.room (run_keeps l.run) (run_keeps r.run) ml mr (says l b p).1 (says r c q).1 (sym ((reads l ml).part b p) ∙ e ∙ (reads r mr).part c q) in
      let k = no_claims l none in
      let o = unled_direct (facts l) k in
      let u = unled_direct (facts r) (sym w.0 ∙ k) in
      let same : (facts l).formation ≡ (facts r).formation = ap (λ z. met turned_coupled z (facts l).formation) (sym o) ∙ w.4 ∙ ap (λ z. met turned_coupled z (facts r).formation) u in
      record { claims = same_claims l r w.0; confirmed = same_list l r w.1; vehicles = on_formed l _ w.2; formation = same_formation l r (sym same) }

-- claims are the same, so a claim stands on both sides or on none
led_here : (l r : Side) → SameClaims l r → Led l ⊎ Led r → Led l
led_here l r same (inl h) = h
led_here l r same (inr h) = (h.0, h.1, (same h.0 h.1).1 h.2)

unled_here : (l r : Side) → SameClaims l r → (Led l → ⊥) ⊎ (Led r → ⊥) → Led l → ⊥
unled_here l r same (inl h) led = h led
unled_here l r same (inr h) led = h (led.0, led.1, (same led.0 led.1).0 led.2)

pub joint : (l r : Side) → IsFleet l.fleet → IsFleet r.fleet → Joint l r (answer l) (answer r)
joint l r ml mr =
    record {
      left = reads l ml;
      right = reads r mr;
      same = λ b c p q. (same_forth l r ml mr b c p q, same_back l r b c p q);
      led = λ b c p q w. (led_forth l r ml mr b c p q, λ h. led_back l r b c (reads l ml) (reads r mr) p q (led_here l r h.claims w) h);
      unled = λ b c p q w. (
        λ e. unled_forth l r ml mr b c p q (unled_here l r (led_forth l r ml mr b c p q e).claims w) e,
        unled_back l r b c (reads l ml) (reads r mr) p q,
      );
      turns = turns l r;
    }

-- the same of outcomes that are theirs
pub joint_of : (l r : Side) (x y : Outcome) → IsFleet l.fleet → IsFleet r.fleet → x ≡ answer l → y ≡ answer r → Joint l r x y
joint_of l r x y ml mr p q = subst (λ z. Joint l r z y) (sym p) (subst (λ z. Joint l r (answer l) z) (sym q) (joint l r ml mr))
