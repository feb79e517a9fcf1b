-- The orientation, from the claim that stands.
use Rattle.std.proofs.Common.{◌≡◌, ◌≤◌, List, [], ◌∷◌, ◌++◌, length, Some, None, Option, sym, refl, ap, ◌∙◌, subst, arith}
use Rattle.std.specs.List.{AllByRecursion}
use Rattle.std.proofs.ByRecursion.{All-weaker}
use Rattle.train.specs.declared.entries.Coupled.{Coupled}
use Rattle.train.specs.declared.identity.Identity.{Identity}
use Rattle.bench.specs.declared.claims.Claim.{Claim}
use Rattle.train.specs.Facings.{composed}
use Rattle.directory.specs.Operation.{leads, lead_of, orient}
use Rattle.directory.proofs.Vocabulary.{nowhere}

module _ (claims : Identity → Option Claim) where
  none_leads : (es : List Coupled) → length (leads claims es) ≤ 0 → AllByRecursion (λ e. claims e.identity ≡ None) es
  none_leads [] h = tt
  none_leads (e ∷ es) h = by (λ z. none_leads es z) (claims e.identity) refl
    where
      by : (length (leads claims es) ≤ 0 → AllByRecursion (λ d. claims d.identity ≡ None) es) → (o : Option Claim) → claims e.identity ≡ o
          → (claims e.identity ≡ None) × AllByRecursion (λ d. claims d.identity ≡ None) es
      by r None q = (q, r (rw q at h))
      by r (Some c) q = let z : length (lead_of e (Some c) ++ leads claims es) ≤ 0 = rw q at h in absurd (omega arith)

  -- the one claim's direction, composed with its consist's facing
  pub orient_at : (x : Identity) (c : Claim) → claims x ≡ Some c → (es : List Coupled) → length (leads claims es) ≤ 1
      → AllByRecursion (λ e. e.identity ≡ x → orient (leads claims es) ≡ composed c.direction e.facing) es
  orient_at x c p [] h = tt
  orient_at x c p (d ∷ es) h = by (λ z. orient_at x c p es z) (claims d.identity) refl
    where
      by : (length (leads claims es) ≤ 1 → AllByRecursion (λ e. e.identity ≡ x → orient (leads claims es) ≡ composed c.direction e.facing) es) → (o : Option Claim)
          → claims d.identity ≡ o → AllByRecursion (λ e. e.identity ≡ x → orient (leads claims (d ∷ es)) ≡ composed c.direction e.facing) (d ∷ es)
      by r None q =
          let same : leads claims (d ∷ es) ≡ leads claims es = ap (λ o. lead_of d o ++ leads claims es) q in (
            λ z. let w : None ≡ Some c = sym q ∙ ap claims z ∙ p in nowhere (cc),
            subst (λ ls. AllByRecursion (λ e. e.identity ≡ x → orient ls ≡ composed c.direction e.facing) es) (sym same) (r (rw q at h)),
          )
      by r (Some k) q =
          let z : length (lead_of d (Some k) ++ leads claims es) ≤ 1 = rw q at h in
          let n = none_leads es (omega arith) in (
            λ i. let w : Some k ≡ Some c = sym q ∙ ap claims i ∙ p in let e : k ≡ c = cc in rw (q, e),
            All-weaker _ _ (λ e y i. let w : None ≡ Some c = sym y ∙ ap claims i ∙ p in nowhere (cc)) es n,
          )
