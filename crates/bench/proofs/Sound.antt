-- What is true of the facts after every run.
use Rattle.std.proofs.Common.{◌≡◌, ℕ, ◌^◌, ◌<◌, ◌≤◌, Bool, true, false, eqb, ltb, leb, ◌⊎◌, List, [], ◌∷◌, ◌++◌, length, Some, None, sym, refl, ap, ◌∙◌, subst, inl, inr, arith}
use Rattle.std.specs.List.{AllByRecursion}
use Rattle.std.specs.Str.{bytes_eq}
use Rattle.std.proofs.lemmas.Bool.{and_parts, leb-true, ltb-true, cases_Bool, eqb-false}
use Rattle.train.specs.declared.identity.Identity.{Identity}
use Rattle.train.specs.Facings.{known}
use Rattle.train.specs.Identities.{is_identity, same_identity}
use Rattle.train.specs.Names.{well_formed}
use Rattle.train.specs.Refusals.{keeps, alone, fresh, by}
use Rattle.train.proofs.Equal.{same_identity_decides}
use Rattle.bench.specs.declared.claims.Claim.{Claim}
use Rattle.bench.specs.Calls.{Call}
use Rattle.bench.specs.Calls.Call.{inaugurate, claim, yield, confirm, withdraw}
use Rattle.bench.specs.Facts.{Facts, nothing, after_all, after, done, accepted, put, within, directed, coupled_in}
use Rattle.bench.proofs.Runs.{met, accepted_does, refused_leaves}

pub record Sound (f : Facts) : Type 0 where
  pub etb : f.etb < 2 ^ 32
  pub few : length f.formation ≤ 63
  pub identities : AllByRecursion (λ e. is_identity e.identity.bytes ≡ true) f.formation
  pub facings : AllByRecursion (λ e. known e.facing ≡ true) f.formation
  pub apart : keeps (fresh (by bytes_eq (λ e. e.identity.bytes))) [] f.formation ≡ true
  pub names_few : length f.confirmed ≤ 63
  pub names : AllByRecursion (λ n. well_formed n.bytes ≡ true) f.confirmed
  pub names_apart : keeps (fresh (by bytes_eq (λ n. n.bytes))) [] f.confirmed ≡ true
  pub listed_formed : 1 ≤ length f.confirmed → 1 ≤ length f.formation
  pub claims : (x : Identity) (c : Claim) → f.claims x ≡ Some c → (known c.direction ≡ true) × (coupled_in x f.formation ≡ true) × (1 ≤ c.vehicle) × (c.vehicle ≤ 32)

nothing_same : {X : Type 0} → ◌≡◌ {A = ℕ} 0 1 → X
nothing_same z = absurd (omega arith)

-- every entry keeps a rule that looks at it alone
pub keeps_each : {A : Type 0} (good : A → Bool) (before xs : List A) → keeps (alone good) before xs ≡ true → AllByRecursion (λ x. good x ≡ true) xs
keeps_each good before [] e = tt
keeps_each good before (x ∷ xs) e =
    let w = and_parts (good x) (keeps (alone good) (before ++ x ∷ []) xs) e in
    (w.0, keeps_each good (before ++ x ∷ []) xs w.1)

known_way : (d : ℕ) → within 1 2 d ≡ true → known (directed d) ≡ true
known_way d h = by (cases_Bool (eqb d 1)) (cases_Bool (eqb d 2))
  where
    by : (eqb d 1 ≡ true) ⊎ (eqb d 1 ≡ false) → (eqb d 2 ≡ true) ⊎ (eqb d 2 ≡ false) → known (directed d) ≡ true
    by (inl a) q = rw a
    by (inr a) (inl b) = rw (a, b)
    by (inr a) (inr b) =
        let w = and_parts (leb 1 d) (leb d 2) h in
        absurd (no (eqb-false d 1 a) (eqb-false d 2 b) (leb-true 1 d w.0) (leb-true d 2 w.1))
      where
        no : (d ≡ 1 → ⊥) → (d ≡ 2 → ⊥) → 1 ≤ d → d ≤ 2 → ⊥
        no p q l m = omega arith

bounded : (low high n : ℕ) → within low high n ≡ true → (low ≤ n) × (n ≤ high)
bounded low high n e = let w = and_parts (leb low n) (leb n high) e in (leb-true low n w.0, leb-true n high w.1)

done_sound : (f : Facts) (k : Call) → Sound f → accepted f k ≡ true → Sound (done f k)
done_sound f (inaugurate n es) s e =
    let m = met f (inaugurate n es) e in
    record {
      etb = ltb-true n (2 ^ 32) (and_parts (ltb 0 n) (ltb n (2 ^ 32)) m.1.0).1;
      few = (bounded 1 63 (length es) m.1.1.0).1;
      identities = keeps_each (λ e. is_identity e.identity.bytes) [] es m.0;
      facings = keeps_each (λ e. known e.facing) [] es m.1.1.1.0;
      apart = m.1.1.1.1.0;
      names_few = omega arith;
      names = tt;
      names_apart = refl;
      listed_formed = λ h. absurd (omega arith);
      claims = λ x c p. nothing_same (cc);
    }
done_sound f (claim y v d) s e =
    let m = met f (claim y v d) e in
    let r = and_parts (within 1 32 v) (within 1 2 d) m.1.1.1.0 in
    record {
      etb = s.etb;
      few = s.few;
      identities = s.identities;
      facings = s.facings;
      apart = s.apart;
      names_few = s.names_few;
      names = s.names;
      names_apart = s.names_apart;
      listed_formed = s.listed_formed;
      claims = λ x c p. go m.1.1.0 (known_way d r.1) (bounded 1 32 v r.0) x c (same_identity y x) refl p;
    }
  where
    go : coupled_in y f.formation ≡ true → known (directed d) ≡ true → (1 ≤ v) × (v ≤ 32) → (x : Identity) (c : Claim) (b : Bool) → same_identity y x ≡ b
        → put f.claims y (Some (record { vehicle = v; direction = directed d })) x ≡ Some c
        → (known c.direction ≡ true) × (coupled_in x f.formation ≡ true) × (1 ≤ c.vehicle) × (c.vehicle ≤ 32)
    go i w h x c true q p =
        let p' = rw q at p in
        let same : record { vehicle = v; direction = directed d } ≡ c = cc in
        let one : v ≡ c.vehicle = ap (λ z. z.vehicle) same in (
          ap (λ z. known z.direction) (sym same) ∙ w,
          ap (λ z. coupled_in z f.formation) (sym ((same_identity_decides y x).0 q)) ∙ i,
          omega (arith, h.0, one),
          omega (arith, h.1, one),
        )
    go i w h x c false q p = s.claims x c (rw q at p)
done_sound f (yield y) s e =
    record {
      etb = s.etb;
      few = s.few;
      identities = s.identities;
      facings = s.facings;
      apart = s.apart;
      names_few = s.names_few;
      names = s.names;
      names_apart = s.names_apart;
      listed_formed = s.listed_formed;
      claims = λ x c p. go x c (same_identity y x) refl p;
    }
  where
    go : (x : Identity) (c : Claim) (b : Bool) → same_identity y x ≡ b → put f.claims y None x ≡ Some c
        → (known c.direction ≡ true) × (coupled_in x f.formation ≡ true) × (1 ≤ c.vehicle) × (c.vehicle ≤ 32)
    go x c true q p = let p' = rw q at p in nothing_same (cc)
    go x c false q p = s.claims x c (rw q at p)
done_sound f (confirm ns) s e =
    let m = met f (confirm ns) e in
    record {
      etb = s.etb;
      few = s.few;
      identities = s.identities;
      facings = s.facings;
      apart = s.apart;
      names_few = (bounded 1 63 (length ns) m.0).1;
      names = keeps_each (λ n. well_formed n.bytes) [] ns m.1.0;
      names_apart = m.1.1.0;
      listed_formed = λ _. leb-true 1 (length f.formation) m.1.1.1.0;
      claims = s.claims;
    }
done_sound f withdraw s e =
    record {
      etb = s.etb;
      few = s.few;
      identities = s.identities;
      facings = s.facings;
      apart = s.apart;
      names_few = omega arith;
      names = tt;
      names_apart = refl;
      listed_formed = λ h. absurd (omega arith);
      claims = s.claims;
    }

after_sound : (f : Facts) (k : Call) → Sound f → (b : Bool) → accepted f k ≡ b → Sound (after f k)
after_sound f k s true e = subst Sound (sym (accepted_does f k e)) (done_sound f k s e)
after_sound f k s false e = subst Sound (sym (refused_leaves f k e)) s

all_sound : (f : Facts) (ks : List Call) → Sound f → Sound (after_all f ks)
all_sound f [] s = s
all_sound f (k ∷ ks) s = all_sound (after f k) ks (after_sound f k s (accepted f k) refl)

pub run_sound : (ks : List Call) → Sound (after_all nothing ks)
run_sound ks =
    all_sound nothing ks (record {
      etb = omega arith;
      few = omega arith;
      identities = tt;
      facings = tt;
      apart = refl;
      names_few = omega arith;
      names = tt;
      names_apart = refl;
      listed_formed = λ h. absurd (omega arith);
      claims = λ x c p. nothing_same (cc);
    })
