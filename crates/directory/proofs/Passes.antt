-- What a written answer says of the checks.
use Rattle.std.proofs.Common.{◌≡◌, ℕ, ◌≤◌, true, List, [], length, Some, None, Option, sym, refl, ◌∙◌}
use Rattle.std.specs.List.{AllByRecursion}
use Rattle.std.proofs.lemmas.Bool.{leb-true}
use Rattle.train.specs.declared.refusal.Part.TheVariants.{Composing}
use Rattle.train.specs.declared.refusal.Refusal.{Refusal}
use Rattle.train.specs.Identities.{same_name}
use Rattle.train.specs.Refusals.{Check, refusal}
use Rattle.train.proofs.Equal.{same_name_sym}
use Rattle.train.proofs.Names.{every_decides}
use Rattle.train.proofs.Rules.{all_met}
use Rattle.fleet.specs.Fleets.{Meaning}
use Rattle.bench.specs.Facts.{Facts}
use Rattle.bench.proofs.Sound.{keeps_each}
use Rattle.directory.specs.Cars.{train}
use Rattle.directory.specs.Operation.{leads, from_head, names}
use Rattle.directory.specs.Composing.{checks, outcome, has, in_reach, in_order}
use Rattle.directory.specs.Composing.Outcome.{written}
use Rattle.directory.proofs.Vocabulary.{nowhere, apart, keys_apart}

-- the first check that is not met
abbrev pub refuses : Facts → Meaning → ℕ → Option Refusal
refuses f m room = refusal Composing (checks f m room)

-- what is written, and that no check failed
pub written_is : (o : Option Refusal) (x b : List ℕ) → outcome o x ≡ written b → (x ≡ b) × (o ≡ None)
written_is None x b e = (cc, refl)
written_is (Some f) x b e = nowhere (cc)

all_ok : (cs : List Check) → refusal Composing cs ≡ None → AllByRecursion (λ c. c.ok ≡ true) cs
all_ok cs e = (every_decides (λ c. c.ok) (λ c. c.ok ≡ true) (λ c. (λ z. z, λ z. z)) cs).0 (all_met Composing cs (sym e))

-- the checks that the law asks for, by name
pub record Passed (f : Facts) (m : Meaning) : Type 0 where
  pub formed : 1 ≤ length f.formation
  pub present : AllByRecursion (λ e. has m e ≡ true) f.formation
  pub distinct : apart same_name (names (train m f.claims f.formation)) ≡ true
  pub single : length (leads f.claims f.formation) ≤ 1
  pub reached : AllByRecursion (λ e. in_reach m f.claims e ≡ true) f.formation
  pub order : in_order f.confirmed (names (from_head f m)) ≡ true

pub passed : (f : Facts) (m : Meaning) (room : ℕ) → refuses f m room ≡ None → Passed f m
passed f m room e =
    let ok = all_ok (checks f m room) e in
    record {
      formed = leb-true 1 (length f.formation) ok.0;
      present = keeps_each (has m) [] f.formation ok.1.0;
      distinct = sym (keys_apart same_name same_name_sym (λ c. c.name) (train m f.claims f.formation)) ∙ ok.1.1.1.0;
      single = leb-true (length (leads f.claims f.formation)) 1 ok.1.1.1.1.0;
      reached = keeps_each (in_reach m f.claims) [] f.formation ok.1.1.1.1.1.0;
      order = ok.1.1.1.1.1.1.0;
    }
