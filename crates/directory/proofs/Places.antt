-- What a search through a list finds, in the words of the definitions.
use Rattle.std.proofs.Common.{◌≡◌, ℕ, ◌+◌, Bool, true, false, cond, ◌||◌, List, [], ◌∷◌, ◌++◌, suc, length, filter, is_some, Some, None, Option, refl, ap, ◌∙◌}
use Rattle.std.proofs.lemmas.List.Concat.{flat_map-cons}
use Rattle.std.specs.List.{list_any, find, position, position_from}
use Rattle.std.specs.Option.{unwrap_or}
use Rattle.std.proofs.lemmas.Iterator.Adapters.{position_from-zero}
use Rattle.train.specs.declared.entries.Coupled.{Coupled}
use Rattle.train.specs.declared.identity.Identity.{Identity}
use Rattle.train.specs.declared.name.Name.{Name}
use Rattle.train.specs.Identities.{same_name}
use Rattle.bench.specs.declared.claims.Claim.{Claim}
use Rattle.directory.specs.declared.cars.Car.{Car}
use Rattle.directory.specs.Operation.{leads, lead_of, names, pick, strange}
use Rattle.directory.specs.Sections.{place}

-- a place counted from 0, as a number from 1; 0 where there is none
abbrev pub numbered : Option ℕ → ℕ
numbered None = 0
numbered (Some i) = i + 1

module _ {A : Type 0} (test : A → Bool) where
  number_from : (i : ℕ) (xs : List A) → numbered (position_from test i xs) ≡ place test (i + 1) xs
  number_from i [] = refl
  number_from i (x ∷ xs) = by (test x) (number_from (i + 1) xs)
    where
      by : (b : Bool) → numbered (position_from test (i + 1) xs) ≡ place test (i + 1 + 1) xs → numbered (cond b (Some i) (position_from test (i + 1) xs)) ≡ cond b (i + 1) (place test (i + 1 + 1) xs)
      by true e = refl
      by false e = e

  pub numbered-position : (xs : List A) → numbered (position test xs) ≡ place test 1 xs
  numbered-position xs = ap numbered (position_from-zero test xs) ∙ number_from 0 xs

pub list_any-names : (test : Name → Bool) (cs : List Car) → list_any (λ c. test c.name) cs ≡ list_any test (names cs)
list_any-names test [] = refl
list_any-names test (c ∷ cs) = ap (λ b. test c.name || b) (list_any-names test cs)

-- what a search answers, and what stands for nothing found
abbrev pub found_or : Name → Option Car → Car
found_or n o = unwrap_or o (strange n)

pub pick_is : (n : Name) (cs : List Car) → found_or n (find (λ c. same_name n c.name) cs) ≡ pick cs n
pick_is n [] = refl
pick_is n (c ∷ cs) = by (same_name n c.name) (pick_is n cs)
  where
    by : (b : Bool) → found_or n (find (λ c. same_name n c.name) cs) ≡ pick cs n → found_or n (cond b (Some c) (find (λ c. same_name n c.name) cs)) ≡ cond b c (pick cs n)
    by true e = refl
    by false e = e

module _ (claims : Identity → Option Claim) where
  pub leads_counted : (es : List Coupled) → length (filter (λ e. is_some (claims e.identity)) es) ≡ length (leads claims es)
  leads_counted [] = refl
  leads_counted (e ∷ es) = by (claims e.identity) (leads_counted es) ∙ ap length (flat_map-cons (λ e. lead_of e (claims e.identity)) e es)
    where
      by : (o : Option Claim) → length (filter (λ e. is_some (claims e.identity)) es) ≡ length (leads claims es)
          → length (cond (is_some o) (e ∷ filter (λ e. is_some (claims e.identity)) es) (filter (λ e. is_some (claims e.identity)) es)) ≡ length (lead_of e o ++ leads claims es)
      by None h = h
      by (Some c) h = ap suc h
