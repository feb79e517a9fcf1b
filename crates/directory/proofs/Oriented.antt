-- The claim and the formation, from what is read back.
use Rattle.std.proofs.Common.{◌≡◌, ℕ, ◌+◌, ◌<◌, ◌≤◌, Bool, true, false, eqb, ◌⊎◌, List, Some, None, Option, sym, refl, ap, ◌∙◌, subst, inl, inr, arith}
use Rattle.std.specs.List.{AllByRecursion}
use Rattle.std.proofs.lemmas.Bool.{eq-eqb, eqb-true}
use Rattle.train.specs.declared.facing.Facing.{Facing}
use Rattle.train.specs.declared.facing.Facing.TheVariants.{NotKnown, Direct, Inverse}
use Rattle.train.specs.declared.entries.Coupled.{Coupled}
use Rattle.train.specs.declared.identity.Identity.{Identity}
use Rattle.bench.specs.declared.claims.Claim.{Claim}
use Rattle.fleet.specs.Fleets.{Meaning}
use Rattle.directory.proofs.Vocabulary.{Known}
use Rattle.train.specs.Turning.{turned_list, turned_coupled}
use Rattle.directory.specs.Cars.{met, turned_car, train, mark}
use Rattle.train.proofs.Turns.{turned_twice}
use Rattle.directory.proofs.Heart.{opposite_twice, train_turned}

-- the train met from the head is the train of the formation met from the head
pub train_met : (m : Meaning) (claims : Identity → Option Claim) (o : Facing) (es : List Coupled) → AllByRecursion (λ e. Known e.facing) es
    → met turned_car o (train m claims es) ≡ train m claims (met turned_coupled o es)
train_met m claims NotKnown es h = refl
train_met m claims Direct es h = refl
train_met m claims Inverse es h = sym (train_turned m claims es h)

pub turned_coupled_twice : (e : Coupled) → turned_coupled (turned_coupled e) ≡ e
turned_coupled_twice e = rw (opposite_twice e.facing)

-- formations that are met alike are equal or each other's turn
pub met_alike : (o p : Facing) (es fs : List Coupled) → Known o → Known p → met turned_coupled o es ≡ met turned_coupled p fs
    → (fs ≡ es) ⊎ (fs ≡ turned_list turned_coupled es)
met_alike NotKnown p es fs h g e = absurd h
met_alike Direct NotKnown es fs h g e = absurd g
met_alike Direct Direct es fs h g e = inl (sym e)
met_alike Direct Inverse es fs h g e = inr (sym (turned_twice turned_coupled turned_coupled_twice fs) ∙ ap (turned_list turned_coupled) (sym e))
met_alike Inverse NotKnown es fs h g e = absurd g
met_alike Inverse Direct es fs h g e = inr (sym e)
met_alike Inverse Inverse es fs h g e = inl (sym (turned_twice turned_coupled turned_coupled_twice fs) ∙ ap (turned_list turned_coupled) (sym e) ∙ turned_twice turned_coupled turned_coupled_twice es)

-- a claim of a consist of k vehicles
abbrev pub Fitting : ℕ → Option Claim → Type 0
Fitting k None = Unit {0}
Fitting k (Some c) = (1 ≤ c.vehicle) × (c.vehicle ≤ k) × Known c.direction

mark_self : (c : Claim) → mark (Some c) c.vehicle ≡ c.direction
mark_self c = rw (eq-eqb c.vehicle c.vehicle refl)

unknown_not : (f : Facing) → Known f → NotKnown ≡ f → ⊥
unknown_not f k e = subst Known (sym e) k

claim_same : (c d : Claim) → c.vehicle ≡ d.vehicle → c.direction ≡ d.direction → c ≡ d
claim_same c d p q = λ i. record { vehicle = p i; direction = q i }

-- equal marks at every vehicle: one claim
pub marks_tell : (k : ℕ) (o q : Option Claim) → Fitting k o → Fitting k q → ((i : ℕ) → 1 ≤ i → i < 1 + k → mark o i ≡ mark q i) → o ≡ q
marks_tell k None None h g m = refl
marks_tell k None (Some d) h g m = absurd (unknown_not d.direction g.2 (m d.vehicle g.0 (omega arith) ∙ mark_self d))
marks_tell k (Some c) None h g m = absurd (unknown_not c.direction h.2 (sym (m c.vehicle h.0 (omega arith)) ∙ mark_self c))
marks_tell k (Some c) (Some d) h g m = by (eqb d.vehicle c.vehicle) refl
  where
    e : mark (Some d) c.vehicle ≡ c.direction
    e = sym (m c.vehicle h.0 (omega arith)) ∙ mark_self c

    by : (b : Bool) → eqb d.vehicle c.vehicle ≡ b → ◌≡◌ {A = Option Claim} (Some c) (Some d)
    by true q = ap Some (claim_same c d (sym (eqb-true d.vehicle c.vehicle q)) (sym (rw q at e)))
    by false q = absurd (unknown_not c.direction h.2 (rw q at e))
