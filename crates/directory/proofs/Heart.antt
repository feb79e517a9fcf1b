-- A formation turned, with the claims as they were, has the same order from the head.
use Rattle.std.proofs.Common.{◌≡◌, List, [], ◌∷◌, Some, None, Option, sym, refl}
use Rattle.std.specs.List.{AllByRecursion}
use Rattle.train.specs.declared.facing.Facing.{Facing}
use Rattle.train.specs.declared.facing.Facing.TheVariants.{NotKnown, Direct, Inverse}
use Rattle.train.specs.declared.entries.Coupled.{Coupled}
use Rattle.train.specs.declared.identity.Identity.{Identity}
use Rattle.bench.specs.declared.claims.Claim.{Claim}
use Rattle.fleet.specs.Fleets.{Meaning, vehicles_of}
use Rattle.train.specs.Facings.{composed, opposite}
use Rattle.directory.proofs.Vocabulary.{Known}
use Rattle.train.specs.Turning.{turned_list, turned_coupled}
use Rattle.directory.specs.Cars.{met, turned_car, stretch, train, cars}
use Rattle.directory.specs.declared.cars.Car.{Car}
use Rattle.directory.specs.Operation.{Lead, lead_of, leads, orient}
use Rattle.train.proofs.Turns.{turned_twice}
use Rattle.directory.proofs.Turns.{met_turned, joined_turned}

pub opposite_twice : (f : Facing) → opposite (opposite f) ≡ f
opposite_twice NotKnown = refl
opposite_twice Direct = refl
opposite_twice Inverse = refl

pub turned_car_twice : (c : Car) → turned_car (turned_car c) ≡ c
turned_car_twice c = rw (opposite_twice c.stance, opposite_twice c.facing)

pub composed-opposite : (d f : Facing) → composed d (opposite f) ≡ opposite (composed d f)
composed-opposite NotKnown f = refl
composed-opposite Direct f = refl
composed-opposite Inverse NotKnown = refl
composed-opposite Inverse Direct = refl
composed-opposite Inverse Inverse = refl

pub composed_known : (d f : Facing) → Known d → Known f → Known (composed d f)
composed_known NotKnown f p q = p
composed_known Direct f p q = q
composed_known Inverse NotKnown p q = q
composed_known Inverse Direct p q = tt
composed_known Inverse Inverse p q = tt

-- meeting a list from the other end is the meeting turned
pub met_inverse : (o : Facing) → Known o → (cs : List Car) → met turned_car (opposite o) cs ≡ turned_list turned_car (met turned_car o cs)
met_inverse NotKnown k cs = absurd k
met_inverse Direct k cs = refl
met_inverse Inverse k cs = sym (turned_twice turned_car turned_car_twice cs)

abbrev pub turn_lead : Lead → Lead
turn_lead l = record { entry = turned_coupled l.entry; at = l.at }

module _ (m : Meaning) (claims : Identity → Option Claim) where
  stretches : (es : List Coupled) → AllByRecursion (λ e. Known e.facing) es → AllByRecursion (λ e. stretch m claims (turned_coupled e) ≡ turned_list turned_car (stretch m claims e)) es
  stretches [] h = tt
  stretches (e ∷ es) h =
      (met_inverse e.facing h.0 (cars e.identity (claims e.identity) 1 (vehicles_of (m e.identity))), stretches es h.1)

  pub train_turned : (es : List Coupled) → AllByRecursion (λ e. Known e.facing) es → train m claims (turned_list turned_coupled es) ≡ turned_list turned_car (train m claims es)
  train_turned es h = joined_turned turned_coupled turned_car (stretch m claims) es (stretches es h)

  lead_of_turned : (e : Coupled) (o : Option Claim) → lead_of (turned_coupled e) o ≡ turned_list turn_lead (lead_of e o)
  lead_of_turned e None = refl
  lead_of_turned e (Some c) = refl

  pub leads_turned : (es : List Coupled) → leads claims (turned_list turned_coupled es) ≡ turned_list turn_lead (leads claims es)
  leads_turned es = joined_turned turned_coupled turn_lead (λ e. lead_of e (claims e.identity)) es (go es)
    where
      go : (xs : List Coupled) → AllByRecursion (λ e. lead_of (turned_coupled e) (claims e.identity) ≡ turned_list turn_lead (lead_of e (claims e.identity))) xs
      go [] = tt
      go (x ∷ xs) = (lead_of_turned x (claims x.identity), go xs)

  -- with one claim the order from the head is the same
  pub head_same : (es : List Coupled) (l : Lead) → AllByRecursion (λ e. Known e.facing) es → leads claims es ≡ l ∷ [] → Known l.at.direction → Known l.entry.facing
      → met turned_car (orient (leads claims (turned_list turned_coupled es))) (train m claims (turned_list turned_coupled es)) ≡ met turned_car (orient (leads claims es)) (train m claims es)
  head_same es l h one kd kf =
      rw (leads_turned es, one, train_turned es h, composed-opposite l.at.direction l.entry.facing)
      (met_turned turned_car turned_car_twice (composed l.at.direction l.entry.facing) (composed_known l.at.direction l.entry.facing kd kf) (train m claims es))
