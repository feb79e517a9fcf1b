-- Loops over cars and entries: what is left gives the answer.
use Rattle.std.proofs.Common.{◌≡◌, ℕ, ◌+◌, ◌-◌, ◌<◌, Bool, true, false, cond, List, [], length, get_or, take, drop, is_some, Some, None, Option, refl, ap, ◌∙◌, arith}
use Rattle.std.proofs.lemmas.List.{take_rest}
use Rattle.train.specs.declared.identity.Identity.{Identity}
use Rattle.train.specs.declared.entries.Coupled.{Coupled}
use Rattle.train.specs.declared.refusal.Part.{Part}
use Rattle.train.specs.declared.refusal.Place.{Place}
use Rattle.train.specs.declared.refusal.Place.TheVariants.{At, InLine}
use Rattle.train.specs.declared.refusal.Reason.{Reason}
use Rattle.train.specs.Refusals.{Rule, each, breach, keeps, first_breach, refused_at}
use Rattle.bench.specs.declared.claims.Claim.{Claim}
use Rattle.directory.specs.Operation.{lead_of}

abbrev place_number : Place → ℕ
place_number (At n) = n
place_number (InLine l b) = 0

-- the rest behind an entry, as the code lends it
pub behind : {A : Type 0} (F : List A → Bool) (xs : List A) (i : ℕ) (b : Bool) → b ≡ F (take (length xs - (i + 1)) (drop (i + 1) xs)) → b ≡ F (drop (i + 1) xs)
behind F xs i b e = e ∙ ap F (take_rest xs (i + 1))

-- the claims that stand, entry by entry
module _ (claims : Identity → Option Claim) (es : List Coupled) (i : ℕ) (d : Coupled) (o : Option Claim) (is : o ≡ claims (get_or es i d).identity) (h : i < length es) where
  one_lead : (e : Coupled) (o : Option Claim) → length (lead_of e o) ≡ cond (is_some o) 1 0
  one_lead e None = refl
  one_lead e (Some c) = refl

-- a rule's first breach, read from the refusal
pub breached : {A : Type 0} (rule : Rule A) (reason : Reason) (part : Part) (xs : List A) (p : ℕ) → breach part (each rule reason xs) ≡ Some (refused_at part reason p)
    → (keeps rule [] xs ≡ false) × (first_breach rule [] xs ≡ p)
breached rule reason part xs p e = go (keeps rule [] xs) refl
  where
    go : (b : Bool) → keeps rule [] xs ≡ b → (keeps rule [] xs ≡ false) × (first_breach rule [] xs ≡ p)
    go true q = let r = rw q at e in let z : ◌≡◌ {A = ℕ} 0 1 = cc in absurd (omega arith)
    go false q =
        let r = rw q at e in
        let same : refused_at part reason (first_breach rule [] xs) ≡ refused_at part reason p = cc in
        (q, ap (λ z. place_number z.place) same)

pub unbreached : {A : Type 0} (rule : Rule A) (reason : Reason) (part : Part) (xs : List A) → breach part (each rule reason xs) ≡ None → keeps rule [] xs ≡ true
unbreached rule reason part xs e = go (keeps rule [] xs) refl
  where
    go : (b : Bool) → keeps rule [] xs ≡ b → keeps rule [] xs ≡ true
    go true q = q
    go false q = let r = rw q at e in let z : ◌≡◌ {A = ℕ} 0 1 = cc in absurd (omega arith)
