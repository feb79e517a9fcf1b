-- A call is accepted where its arguments are in order and what stands lets it be; and at most one of each fact stands.
use Rattle.std.proofs.Common.{◌≡◌, ℕ, ◌≤◌, true, ◌&&◌, ◌⊎◌, List, [], ◌∷◌, length, is_some, Some, None, Option, sym, refl, ap, ◌∙◌, subst, inl, inr, arith}
use Rattle.std.specs.List.{AllByRecursion}
use Rattle.std.proofs.lemmas.Bool.{and_parts, and_from, leb-true, le-leb}
use Rattle.train.specs.declared.identity.Identity.{Identity}
use Rattle.train.specs.declared.name.Name.{Name}
use Rattle.train.specs.declared.entries.Coupled.{Coupled}
use Rattle.train.specs.Identities.{is_identity}
use Rattle.train.specs.Names.{every}
use Rattle.train.specs.Refusals.{Check}
use Rattle.train.proofs.Names.{every_decides}
use Rattle.bench.specs.declared.claims.Claim.{Claim}
use Rattle.bench.specs.Calls.{Call}
use Rattle.bench.specs.Calls.Call.{inaugurate, claim, yield, confirm, withdraw}
use Rattle.bench.specs.Facts.{nothing, after_all, checks, list_checks, within, some, coupled_in}
use Rattle.bench.specs.Standing.{Taken, Stands, Allowed, AcceptedAsTold, StandingLaws, well}
use Rattle.bench.specs.Standing.Fact.{coupled, claimed, listed}
use Rattle.bench.proofs.Runs.{met, stands}
use Rattle.bench.proofs.Sound.{run_sound}

nothing_same : {X : Type 0} → ◌≡◌ {A = ℕ} 0 1 → X
nothing_same z = absurd (omega arith)

every_ok : (cs : List Check) → AllByRecursion (λ c. c.ok ≡ true) cs → every (λ c. c.ok) cs ≡ true
every_ok cs = (every_decides (λ c. c.ok) (λ c. c.ok ≡ true) (λ c. (λ z. z, λ z. z)) cs).1

in_some : (x : Identity) (es : List Coupled) → coupled_in x es ≡ true → 1 ≤ length es
in_some x [] e = nothing_same (cc)
in_some x (d ∷ es) e = omega arith

some_as : {X : Type 0} (xs ys : List X) → xs ≡ ys → 1 ≤ length ys → some xs ≡ true
some_as xs ys e h = ap some e ∙ le-leb 1 (length ys) h

module _ (run : List Call) where
  formed_stands : 1 ≤ length (after_all nothing run).formation → Stands run (coupled (after_all nothing run).etb (after_all nothing run).formation)
  formed_stands h = (stands run (coupled (after_all nothing run).etb (after_all nothing run).formation)).0 (refl, refl, h)

  claim_stands : (x : Identity) (o : Option Claim) → (after_all nothing run).claims x ≡ o → is_some o ≡ true → (c : Claim) × Stands run (claimed x c)
  claim_stands x None q h = nothing_same (cc)
  claim_stands x (Some c) q h = (c, (stands run (claimed x c)).0 q)

  forth : (k : Call) → Taken run k → (well k ≡ true) × Allowed run k
  forth (inaugurate n es) t = (t, tt)
  forth (claim x v d) t =
      let f = after_all nothing run in
      let m = met f (claim x v d) t in (
        and_from (is_identity x.bytes) (within 1 32 v && within 1 2 d) m.0 m.1.1.1.0,
        (f.etb, f.formation, formed_stands (leb-true 1 (length f.formation) m.1.0), m.1.1.0),
      )
  forth (yield x) t =
      let f = after_all nothing run in
      let m = met f (yield x) t in
      (m.0, claim_stands x (f.claims x) refl m.1.1.1.0)
  forth (confirm ns) t =
      let f = after_all nothing run in
      let m = met f (confirm ns) t in (
        every_ok (list_checks ns) (m.0, (m.1.0, (m.1.1.0, tt))),
        (f.etb, f.formation, formed_stands (leb-true 1 (length f.formation) m.1.1.1.0)),
      )
  forth withdraw t =
      let f = after_all nothing run in
      let m = met f withdraw t in
      (refl, (f.confirmed, (stands run (listed f.confirmed)).0 (refl, leb-true 1 (length f.confirmed) m.1.0)))

  back : (k : Call) → well k ≡ true → Allowed run k → Taken run k
  back (inaugurate n es) w a = w
  back (claim x v d) w a =
      let f = after_all nothing run in
      let h = (stands run (coupled a.0 a.1)).1 a.2 in
      let p = and_parts (is_identity x.bytes) (within 1 32 v && within 1 2 d) w in
      every_ok (checks f (claim x v d)) (p.0, (some_as f.formation a.1 h.1 h.2, (ap (coupled_in x) h.1 ∙ a.3, (p.1, tt))))
  back (yield x) w a =
      let f = after_all nothing run in
      let h = (stands run (claimed x a.0)).1 a.1 in
      let c = (run_sound run).claims x a.0 h in
      every_ok (checks f (yield x)) (w, (le-leb 1 (length f.formation) (in_some x f.formation c.1), (c.1, (ap is_some h, tt))))
  back (confirm ns) w a =
      let f = after_all nothing run in
      let h = (stands run (coupled a.0 a.1)).1 a.2 in
      let m = (every_decides (λ c. c.ok) (λ c. c.ok ≡ true) (λ c. (λ z. z, λ z. z)) (list_checks ns)).0 w in
      every_ok (checks f (confirm ns)) (m.0, (m.1.0, (m.1.1.0, (some_as f.formation a.1 h.1 h.2, tt))))
  back withdraw w a =
      let f = after_all nothing run in
      let h = (stands run (listed a.0)).1 a.1 in
      let listed : 1 ≤ length f.confirmed = subst (λ z. 1 ≤ length z) (sym h.0) h.1 in
      every_ok (checks f withdraw) (le-leb 1 (length f.formation) ((run_sound run).listed_formed listed), (le-leb 1 (length f.confirmed) listed, tt))

  pub accepted_as_told : AcceptedAsTold run
  accepted_as_told k = (forth k, λ p. back k p.0 p.1)

  same_some : {X : Type 0} (o : Option X) (a b : X) → o ≡ Some a → o ≡ Some b → a ≡ b
  same_some o a b p q = cc

  formation_or_none : (1 ≤ length (after_all nothing run).formation) ⊎ (length (after_all nothing run).formation ≤ 0)
      → ((n : ℕ) × (es : List Coupled) × Stands run (coupled n es)) ⊎ ((n : ℕ) (es : List Coupled) → Stands run (coupled n es) → ⊥)
  formation_or_none (inl h) = inl ((after_all nothing run).etb, (after_all nothing run).formation, formed_stands h)
  formation_or_none (inr h) =
      inr (λ n es s. let p = (stands run (coupled n es)).1 s in let q = ap length p.1 in let r = p.2 in omega arith)

  claim_or_none : (x : Identity) (o : Option Claim) → (after_all nothing run).claims x ≡ o → ((c : Claim) × Stands run (claimed x c)) ⊎ ((c : Claim) → Stands run (claimed x c) → ⊥)
  claim_or_none x (Some c) q = inl (c, (stands run (claimed x c)).0 q)
  claim_or_none x None q = inr (λ c s. let p = (stands run (claimed x c)).1 s in nothing_same (cc))

  list_or_none : (1 ≤ length (after_all nothing run).confirmed) ⊎ (length (after_all nothing run).confirmed ≤ 0)
      → ((ns : List Name) × Stands run (listed ns)) ⊎ ((ns : List Name) → Stands run (listed ns) → ⊥)
  list_or_none (inl h) = inl ((after_all nothing run).confirmed, (stands run (listed (after_all nothing run).confirmed)).0 (refl, h))
  list_or_none (inr h) =
      inr (λ ns s. let p = (stands run (listed ns)).1 s in let q = ap length p.0 in let r = p.1 in omega arith)

  some_or_none : {X : Type 0} (xs : List X) → (1 ≤ length xs) ⊎ (length xs ≤ 0)
  some_or_none [] = inr (omega arith)
  some_or_none (x ∷ xs) = inl (omega arith)

  pub standing_laws : StandingLaws run
  standing_laws = record {
    one_formation = λ m n es fs s t. let p = (stands run (coupled m es)).1 s in let q = (stands run (coupled n fs)).1 t in (sym p.0 ∙ q.0, sym p.1 ∙ q.1);
    one_claim = λ x c d s t. same_some ((after_all nothing run).claims x) c d ((stands run (claimed x c)).1 s) ((stands run (claimed x d)).1 t);
    one_list = λ ns ms s t. sym ((stands run (listed ns)).1 s).0 ∙ ((stands run (listed ms)).1 t).0;
    formation_or_none = formation_or_none (some_or_none (after_all nothing run).formation);
    claim_or_none = λ x. claim_or_none x ((after_all nothing run).claims x) refl;
    list_or_none = list_or_none (some_or_none (after_all nothing run).confirmed);
  }
