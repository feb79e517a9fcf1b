-- Refusals: the number of each reason, and the first of a list of checks that is not met.
use Rattle.std.specs.Prelude.{ℕ, ◌+◌, Bool, true, cond, not, ◌&&◌, List, [], ◌∷◌, ◌++◌, length, Some, None, Ok, Err, Option, Result}
use Rattle.std.specs.List.{list_any}
use Rattle.train.specs.declared.refusal.Part.{Part}
use Rattle.train.specs.declared.refusal.Place.{Place}
use Rattle.train.specs.declared.refusal.Place.TheVariants.{At}
use Rattle.train.specs.declared.refusal.Refusal.{Refusal}
use Rattle.train.specs.declared.refusal.Reason.{Reason}
use Rattle.train.specs.declared.refusal.Reason.TheVariants.{LineForm, BookHead, ConsistCount, VehicleCount, IdentityOrder, ZeroCounter, EntryCount, VehicleSum, NameForm, UnknownFacing, Repeated, NoFormation, NotPresent, ClaimRange, NothingStands, RosterFull, ConsistAbsent, TrainLength, SharedName, SeveralClaims, ClaimBeyond, ListOrder, InsertedInside, BufferShort}

abbrev pub number : Reason → ℕ
number LineForm = 1
number BookHead = 2
number ConsistCount = 3
number VehicleCount = 4
number IdentityOrder = 5
number ZeroCounter = 6
number EntryCount = 7
number VehicleSum = 8
number NameForm = 9
number UnknownFacing = 10
number Repeated = 11
number NoFormation = 12
number NotPresent = 13
number ClaimRange = 14
number NothingStands = 15
number RosterFull = 16
number ConsistAbsent = 17
number TrainLength = 18
number SharedName = 19
number SeveralClaims = 20
number ClaimBeyond = 21
number ListOrder = 22
number InsertedInside = 23
number BufferShort = 24

-- a refusal at a place that is counted, or 0
abbrev pub refused_at : Part → Reason → ℕ → Refusal
refused_at part reason n = record { part = part; reason = reason; place = At n }

-- A check that a call makes: whether it is met and, where it is not, the reason and the place of the refusal.
pub record Check : Type 0 where
  pub ok : Bool
  pub reason : Reason
  pub place : Place

-- a check that names no place
abbrev pub must : Bool → Reason → Check
must ok reason = record { ok = ok; reason = reason; place = At 0 }

-- the refusal of one check, if it is not met
abbrev pub breach : Part → Check → Option Refusal
breach part c = cond c.ok None (Some (record { part = part; reason = c.reason; place = c.place }))

abbrev pub or_else : {A : Type 0} → Option A → Option A → Option A
or_else None other = other
or_else (Some x) other = Some x

-- the refusal of a list of checks: that of the first that is not met
abbrev pub refusal : Part → List Check → Option Refusal
refusal part [] = None
refusal part (c ∷ cs) = or_else (breach part c) (refusal part cs)

-- what a call answered, as far as it is a refusal
abbrev pub refusal_of : {A : Type 0} → Result A Refusal → Option Refusal
refusal_of (Ok x) = None
refusal_of (Err e) = Some e

-- A rule for the entries of a list, which may look at the entries before.
abbrev pub Rule : Type 0 → Type 0
Rule A = List A → A → Bool

-- each of these entries, which stand behind `before`, keeps the rule
abbrev pub keeps : {A : Type 0} → Rule A → List A → List A → Bool
keeps rule before [] = true
keeps rule before (x ∷ xs) = rule before x && keeps rule (before ++ x ∷ []) xs

-- the place of the first that breaks it, counted from 1 through `before`; 0 where none does
abbrev pub first_breach : {A : Type 0} → Rule A → List A → List A → ℕ
first_breach rule before [] = 0
first_breach rule before (x ∷ xs) = cond (rule before x) (first_breach rule (before ++ x ∷ []) xs) (length before + 1)

abbrev pub each_behind : {A : Type 0} → Rule A → Reason → List A → List A → Check
each_behind rule reason before xs = record { ok = keeps rule before xs; reason = reason; place = At (first_breach rule before xs) }

-- the check that every entry keeps the rule; its place is the first that does not
abbrev pub each : {A : Type 0} → Rule A → Reason → List A → Check
each rule reason xs = each_behind rule reason [] xs

-- a rule that looks at the entry alone
abbrev pub alone : {A : Type 0} → (A → Bool) → Rule A
alone good before x = good x

abbrev pub among : {A : Type 0} → (A → A → Bool) → A → List A → Bool
among alike x ys = list_any (alike x) ys

-- the rule that no entry is like one before it
abbrev pub fresh : {A : Type 0} → (A → A → Bool) → Rule A
fresh alike before x = not (among alike x before)

-- a test of two entries by something that each has
abbrev pub by : {A B : Type 0} → (B → B → Bool) → (A → B) → A → A → Bool
by test part x y = test (part x) (part y)
