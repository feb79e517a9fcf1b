-- What a roster's calls do, by its meaning.
use Rattle.std.specs.Prelude.{◌≡◌, ℕ, Bool, true, cond, not, ◌&&◌, List, [], ◌∷◌, ◌++◌, length, is_some, Some, None, Decides, Option, ◌==◌, ◌≢◌, nat_le}
use Rattle.std.specs.List.{AllByRecursion}
use Rattle.std.specs.Str.{bytes_eq}
use Rattle.train.specs.declared.entries.Vehicle.{Vehicle}
use Rattle.train.specs.declared.identity.Identity.{Identity}
use Rattle.train.specs.declared.refusal.Part.TheVariants.{Roster}
use Rattle.train.specs.declared.refusal.Reason.TheVariants.{IdentityOrder, ZeroCounter, EntryCount, NameForm, UnknownFacing, Repeated, NotPresent, RosterFull}
use Rattle.train.specs.declared.refusal.Refusal.{Refusal}
use Rattle.train.specs.Facings.{known}
use Rattle.train.specs.Names.{well_formed}
use Rattle.train.specs.Octets.{zeros}
use Rattle.train.specs.Refusals.{Check, must, each, alone, fresh, by, refusal}
use Rattle.fleet.specs.Fleets.{Consist, Meaning, Pairs}

abbrev pub same_id : Identity → Identity → Bool
same_id a b = bytes_eq a.bytes b.bytes

-- the meaning, changed at one identity alone
abbrev pub announced : Identity → Consist → Meaning → Meaning
announced id c m other = cond (same_id id other) (Some c) (m other)

abbrev pub forgotten : Identity → Meaning → Meaning
forgotten id m other = cond (same_id id other) None (m other)

-- 63 consists of other identities stand
pub record Full (m : Meaning) (id : Identity) : Type 0 where
  pub others : List Identity
  pub count : length others ≡ 63
  pub apart : Pairs (λ a b. a.bytes ≢ b.bytes) others
  pub other : AllByRecursion (λ x. x.bytes ≢ id.bytes) others
  pub present : AllByRecursion (λ x. is_some (m x) ≡ true) others

-- the checks of a consist that is announced
abbrev pub consist_checks : Identity → ℕ → List Vehicle → List Check
consist_checks id counter vehicles =
    must (not (bytes_eq id.bytes zeros)) IdentityOrder
    ∷ must (not (counter == 0)) ZeroCounter
    ∷ must (nat_le 1 (length vehicles) && nat_le (length vehicles) 32) EntryCount
    ∷ each (alone (λ v. well_formed v.name.bytes)) NameForm vehicles
    ∷ each (alone (λ v. known v.facing)) UnknownFacing vehicles
    ∷ each (fresh (by bytes_eq (λ v. v.name.bytes))) Repeated vehicles
    ∷ []

-- what announcing checks, in this order
abbrev pub announce_checks : Identity → ℕ → List Vehicle → Bool → List Check
announce_checks id counter vehicles full = consist_checks id counter vehicles ++ (must (not full) RosterFull ∷ [])

-- the answer to an announcement
pub record Announces (m : Meaning) (id : Identity) (counter : ℕ) (vehicles : List Vehicle) (answer : Option Refusal) : Type 0 where
  pub full : Bool
  pub decided : Decides full (Full m id)
  pub is : answer ≡ refusal Roster (announce_checks id counter vehicles full)

-- what forgetting checks, in this order
abbrev pub forget_checks : Meaning → Identity → List Check
forget_checks m id = must (not (bytes_eq id.bytes zeros)) IdentityOrder ∷ must (is_some (m id)) NotPresent ∷ []
