-- What stands after every run, in the words of these proofs.
use Rattle.std.proofs.Common.{◌≡◌, ◌^◌, ◌<◌, ◌≤◌, true, false, ◌↔◌, List, [], ◌∷◌, length, Some, None, Option, sym, refl, ap, ◌∙◌, ⊎_elim, arith, length-append}
use mathlib.Core.Path.{fun_ext}
use Rattle.std.specs.List.{AllByRecursion}
use Rattle.std.proofs.ByRecursion.{All-append, All-weaker}
use Rattle.std.proofs.lemmas.Bool.{or_cases}
use Rattle.train.specs.declared.identity.Identity.{Identity}
use Rattle.train.specs.declared.entries.Coupled.{Coupled}
use Rattle.train.specs.Identities.{same_identity}
use Rattle.train.specs.Refusals.{among}
use Rattle.train.proofs.Equal.{same_identity_decides, same_identity_sym}
use Rattle.bench.specs.declared.claims.Claim.{Claim}
use Rattle.bench.specs.Calls.{Call}
use Rattle.bench.specs.Facts.{Facts, nothing, after_all}
use Rattle.bench.proofs.Sound.{Sound, run_sound}
use Rattle.directory.specs.Operation.{Lead, lead_of, leads}
use Rattle.directory.proofs.Vocabulary.{nowhere, Known, known_is, Sixteen, blank, identities, apart, identity_rule, well_formed_long, keys_apart, among_coupled}

pub record Kept (f : Facts) : Type 0 where
  pub facings : AllByRecursion (λ e. Known e.facing) f.formation
  pub claims : (x : Identity) (c : Claim) → f.claims x ≡ Some c → Known c.direction × (among same_identity x (identities f.formation) ≡ true)
  pub etb : f.etb < 2 ^ 32
  pub sixteen : AllByRecursion (λ e. Sixteen e.identity.bytes) f.formation
  pub own : AllByRecursion (λ e. blank e.identity ≡ false) f.formation
  pub apart : apart same_identity (identities f.formation) ≡ true
  pub confirmed : AllByRecursion (λ n. Sixteen n.bytes) f.confirmed
  pub numbers : (x : Identity) (c : Claim) → f.claims x ≡ Some c → 1 ≤ c.vehicle

pub sound_keeps : (f : Facts) → Sound f → Kept f
sound_keeps f s =
    record {
      facings = All-weaker _ _ (λ e z. known_is e.facing z) f.formation s.facings;
      claims = λ x c p. let w = s.claims x c p in (known_is c.direction w.0, sym (among_coupled x f.formation) ∙ w.1);
      etb = s.etb;
      sixteen = All-weaker _ _ (λ e z. (identity_rule e.identity z).0) f.formation s.identities;
      own = All-weaker _ _ (λ e z. (identity_rule e.identity z).1) f.formation s.identities;
      apart = sym (keys_apart same_identity same_identity_sym (λ e. e.identity) f.formation) ∙ s.apart;
      confirmed = All-weaker _ _ (λ n z. well_formed_long n.bytes z) f.confirmed s.names;
      numbers = λ x c p. (s.claims x c p).2;
    }

pub run_keeps : (ks : List Call) → Kept (after_all nothing ks)
run_keeps ks = sound_keeps (after_all nothing ks) (run_sound ks)

-- functions with the same answers
some_same : {X : Type 0} (o q : Option X) → ((c : X) → (o ≡ Some c) ↔ (q ≡ Some c)) → o ≡ q
some_same None None h = refl
some_same None (Some c) h = (h c).1 refl
some_same (Some c) q h = sym ((h c).0 refl)

pub claims_same : (f g : Identity → Option Claim) → ((x : Identity) (c : Claim) → (f x ≡ Some c) ↔ (g x ≡ Some c)) → f ≡ g
claims_same f g h = fun_ext (λ x. some_same (f x) (g x) (h x))

pub some_formed : (x : Identity) (es : List Coupled) → among same_identity x (identities es) ≡ true → 1 ≤ length es
some_formed x [] e = nowhere (cc)
some_formed x (d ∷ es) e = omega arith

-- a claim in the formation leads
module _ (claims : Identity → Option Claim) where
  pub leads_some : (x : Identity) (c : Claim) (es : List Coupled) → claims x ≡ Some c → among same_identity x (identities es) ≡ true → 1 ≤ length (leads claims es)
  leads_some x c [] p e = nowhere (cc)
  leads_some x c (d ∷ es) p e =
      ⊎_elim
      (λ q. let r : claims d.identity ≡ Some c = ap claims (sym ((same_identity_decides x d.identity).0 q)) ∙ p in rw r (omega arith))
      (λ q. let r = leads_some x c es p q in simp length-append (omega arith))
      (or_cases (same_identity x d.identity) (among same_identity x (identities es)) e)

  -- what leads is a claim
  pub leads_claim : (es : List Coupled) → 1 ≤ length (leads claims es) → (x : Identity) × (c : Claim) × (claims x ≡ Some c)
  leads_claim [] h = absurd (omega arith)
  leads_claim (e ∷ es) h = by (claims e.identity) refl (leads_claim es)
    where
      by : (o : Option Claim) → claims e.identity ≡ o → (1 ≤ length (leads claims es) → (x : Identity) × (c : Claim) × (claims x ≡ Some c))
          → (x : Identity) × (c : Claim) × (claims x ≡ Some c)
      by None q rest = rest (rw q at h)
      by (Some c) q rest = (e.identity, c, q)

  pub leads_all : (P : Lead → Type 0) → (es : List Coupled)
      → ((e : Coupled) (c : Claim) → claims e.identity ≡ Some c → Known e.facing → P (record { entry = e; at = c })) → AllByRecursion (λ e. Known e.facing) es
      → AllByRecursion P (leads claims es)
  leads_all P [] h k = tt
  leads_all P (e ∷ es) h k = All-append P (lead_of e (claims e.identity)) (leads claims es) (by (claims e.identity) refl) (leads_all P es h k.1)
    where
      by : (o : Option Claim) → claims e.identity ≡ o → AllByRecursion P (lead_of e o)
      by None q = tt
      by (Some c) q = (h e c q k.0, tt)
