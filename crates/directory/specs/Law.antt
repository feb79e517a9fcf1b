-- The law of two runs: what equal compositions, equal leading ends and a turned formation say of the facts.
use Rattle.std.specs.Prelude.{◌≡◌, ℕ, ◌⊎◌, ◌↔◌, List}
use Rattle.std.specs.List.{AllByRecursion}
use Rattle.train.specs.declared.facing.Facing.TheVariants.{Direct}
use Rattle.train.specs.declared.identity.Identity.{Identity}
use Rattle.train.specs.declared.name.Name.{Name}
use Rattle.train.specs.declared.entries.Coupled.{Coupled}
use Rattle.train.specs.Facings.{composed}
use Rattle.train.specs.Turning.{turned_list, turned_coupled}
use Rattle.fleet.specs.Fleets.{Meaning, Lawful, vehicles_of}
use Rattle.bench.specs.declared.claims.Claim.{Claim}
use Rattle.bench.specs.Calls.{Call}
use Rattle.bench.specs.Facts.{Facts, nothing, after_all}
use Rattle.bench.specs.Standing.{Fact, Stands, Shows, AcceptedAsTold}
use Rattle.bench.specs.Standing.Fact.{coupled, claimed, listed}
use Rattle.directory.specs.Operation.{orientation, from_head}
use Rattle.directory.specs.Sections.{leading_end}
use Rattle.directory.specs.Composing.{Outcome, composed_into}
use Rattle.directory.specs.Composing.Outcome.{refused, written}
use Rattle.directory.specs.Order.{told}
use Rattle.directory.specs.Part.{leading_part}

-- each identity means nothing, or a consist that keeps the rules
abbrev pub IsFleet : Meaning → Type 0
IsFleet m = (x : Identity) → Lawful (m x)

-- a new bench after a run of calls, with a fleet and room to compose into
pub record Side : Type 0 where
  pub run : List Call
  pub fleet : Meaning
  pub room : ℕ

abbrev pub facts : Side → Facts
facts s = after_all nothing s.run

abbrev pub answer : Side → Outcome
answer s = composed_into (facts s) s.fleet s.room

-- this formation stands
abbrev pub Formed : Side → List Coupled → Type 0
Formed s es = (n : ℕ) × Stands s.run (coupled n es)

-- a claim stands
abbrev pub Led : Side → Type 0
Led s = (x : Identity) × (c : Claim) × Stands s.run (claimed x c)

-- the same facts stand
abbrev pub SameFacts : Side → Side → Type 0
SameFacts l r = (fact : Fact) → Stands l.run fact ↔ Stands r.run fact

abbrev pub SameClaims : Side → Side → Type 0
SameClaims l r = (x : Identity) (c : Claim) → Stands l.run (claimed x c) ↔ Stands r.run (claimed x c)

abbrev pub SameList : Side → Side → Type 0
SameList l r = (ns : List Name) → Stands l.run (listed ns) ↔ Stands r.run (listed ns)

abbrev pub SameFormation : Side → Side → Type 0
SameFormation l r = (es : List Coupled) → Formed l es ↔ Formed r es

abbrev pub TurnedFormation : Side → Side → Type 0
TurnedFormation l r = (es : List Coupled) → Formed l es ↔ Formed r (turned_list turned_coupled es)

-- the fleets say the same of every consist of the formation
abbrev pub SaySame : Side → Side → Type 0
SaySame l r = (es : List Coupled) → Formed l es → AllByRecursion (λ e. l.fleet e.identity ≡ r.fleet e.identity) es

-- the fleets give every consist of the formation the same vehicles
abbrev pub SameVehicles : Side → Side → Type 0
SameVehicles l r = (es : List Coupled) → Formed l es → AllByRecursion (λ e. vehicles_of (l.fleet e.identity) ≡ vehicles_of (r.fleet e.identity)) es

-- both compose, or both are refused under one number
abbrev pub Alike : Outcome → Outcome → Type 0
Alike (refused x) (refused y) = x.reason ≡ y.reason
Alike (refused x) (written c) = ⊥
Alike (written b) (refused y) = ⊥
Alike (written b) (written c) = Unit {0}

-- what equal leading ends say
pub record SameLead (l r : Side) : Type 0 where
  pub claims : SameClaims l r
  pub confirmed : SameList l r
  pub vehicles : SameVehicles l r
  pub formations : SameFormation l r ⊎ TurnedFormation l r

-- what they say where no claim stands
pub record SameUnled (l r : Side) : Type 0 where
  pub claims : SameClaims l r
  pub confirmed : SameList l r
  pub vehicles : SameVehicles l r
  pub formation : SameFormation l r

-- the right differs from the left in that its formation is turned
pub record OnlyTurned (l r : Side) : Type 0 where
  pub coupling : (n : ℕ) (es : List Coupled) → Stands l.run (coupled n es) ↔ Stands r.run (coupled n (turned_list turned_coupled es))
  pub claims : SameClaims l r
  pub confirmed : SameList l r
  pub fleets : SaySame l r
  pub rooms : l.room ≡ r.room

-- what one side says whose outcome is o
pub record SideLaws (s : Side) (o : Outcome) : Type 0 where
  -- the facts are those that stand
  pub stand : Shows (facts s) s.run
  -- a next call is accepted where its arguments are in order and what stands lets it be
  pub taken : AcceptedAsTold s.run
  -- the orientation is direct without a claim, else the claim's direction composed with its consist's facing
  pub direct : (Led s → ⊥) → orientation (facts s) ≡ Direct
  pub oriented : (b : List ℕ) → o ≡ written b → (x : Identity) (c : Claim) (es : List Coupled) → Stands s.run (claimed x c) → Formed s es
      → AllByRecursion (λ e. e.identity ≡ x → orientation (facts s) ≡ composed c.direction e.facing) es
  -- the order from the head is the one that the rule tells
  pub order : from_head (facts s) s.fleet ≡ told (facts s) s.fleet
  -- the leading-end part of what is written is what the facts define
  pub part : (b : List ℕ) → o ≡ written b → leading_part b ≡ leading_end (facts s) s.fleet

-- of two sides, their outcomes x and y
pub record Joint (l r : Side) (x y : Outcome) : Type 0 where
  pub left : SideLaws l x
  pub right : SideLaws r y
  -- equal compositions: the same facts, and fleets that say the same
  pub same : (b c : List ℕ) → x ≡ written b → y ≡ written c → (b ≡ c) ↔ (SameFacts l r × SaySame l r)
  -- equal leading-end parts where a claim stands: the same train, whichever way it is formed
  pub led : (b c : List ℕ) → x ≡ written b → y ≡ written c → Led l ⊎ Led r → (leading_part b ≡ leading_part c) ↔ SameLead l r
  -- equal leading-end parts where none stands on a side: the same train, formed the same way
  pub unled : (b c : List ℕ) → x ≡ written b → y ≡ written c → (Led l → ⊥) ⊎ (Led r → ⊥) → (leading_part b ≡ leading_part c) ↔ SameUnled l r
  -- a turned formation composes, or is refused, alike
  pub turns : OnlyTurned l r → Led l → Alike x y
