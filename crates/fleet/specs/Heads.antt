-- The head of a book, by numbers; and what a list of checks says of each.
use Rattle.std.specs.Prelude.{◌≡◌, ℕ, ◌+◌, ◌*◌, ◌≤◌, Bool, true, false, cond, List, ◌∷◌, ◌++◌, length, IsErrAnd, Some, None, Ok, Err, Option, Result, MatchResult, ◌≢◌, slice_index_or, refl}
use Rattle.std.proofs.Common.{sym, ap, ◌∙◌, arith}
use Rattle.std.proofs.lemmas.Bool.Decides.{nat_tests}
use Rattle.train.specs.declared.refusal.Part.{Part}
use Rattle.train.specs.declared.refusal.Part.TheVariants.{Book}
use Rattle.train.specs.declared.refusal.Place.TheVariants.{At}
use Rattle.train.specs.declared.refusal.Reason.TheVariants.{VehicleCount}
use Rattle.train.specs.declared.refusal.Refusal.{Refusal}
use Rattle.train.specs.Refusals.{Check, breach, or_else, refusal, refusal_of}
use Rattle.train.proofs.Rules.{refusal-joined}
use Rattle.fleet.specs.Books.{count_of, total_of, head_checks}

pub never : {A : Type 0} {X : Type 0} (x : A) → Some x ≡ None → X
never x e = let z : ◌≡◌ {A = ℕ} 0 1 = cc in absurd (omega arith)

-- a refusal that is passed on
pub passed_on : {A : Type 0} (r : Result A Refusal) (x : Refusal) → IsErrAnd r (λ y. y ≡ x) → refusal_of r ≡ Some x
passed_on (Ok a) x e = absurd e
passed_on (Err y) x e = ap (λ z. Some z) e

pub on_refusal : {A : Type 0} (r : Result A Refusal) (x : Refusal) (P : A → Type 0) (Q : Refusal → Type 0) → IsErrAnd r (λ y. y ≡ x) → ((y : Refusal) → Q y) → MatchResult r P Q
on_refusal (Ok a) x P Q e f = absurd e
on_refusal (Err y) x P Q e f = f y

-- the first checks refuse, so all refuse alike
pub first_refused : (part : Part) (cs ds : List Check) (x : Refusal) → Some x ≡ refusal part cs → Some x ≡ refusal part (cs ++ ds)
first_refused part cs ds x e = sym (refusal-joined part cs ds ∙ ap (λ (o : Option Refusal). or_else o (refusal part ds)) (sym e))

-- a check that does not refuse is met
pub met : (part : Part) (c : Check) → breach part c ≡ None → c.ok ≡ true
met part c e = go c.ok _ e
  where
    go : (b : Bool) (x : Refusal) → cond b None (Some x) ≡ None → b ≡ true
    go true x e = refl
    go false x e = never x e

-- of checks that do not refuse the first is met, and the others do not refuse
pub first_met : (part : Part) (c : Check) (rest : Option Refusal) → or_else (breach part c) rest ≡ None → (c.ok ≡ true) × (rest ≡ None)
first_met part c rest e = let t = go (breach part c) rest e in (met part c t.0, t.1)
  where
    go : (p q : Option Refusal) → or_else p q ≡ None → (p ≡ None) × (q ≡ None)
    go None q e = (refl, e)
    go (Some x) q e = never x e

pub none_first : (part : Part) (c : Check) (cs : List Check) → c.ok ≡ true → refusal part cs ≡ None → refusal part (c ∷ cs) ≡ None
none_first part c cs e f = rw e f

pub record Head (bs : List ℕ) : Type 0 where
  pub four : 4 ≤ length bs
  pub one : slice_index_or bs 0 0 ≡ 1
  pub none : slice_index_or bs 1 0 ≡ 0
  pub few : count_of bs ≤ 200
  pub reach : 6 + 21 * count_of bs ≤ length bs

pub head_fits : (bs : List ℕ) → Head bs → total_of bs ≤ 2000 → length bs ≡ 6 + 21 * count_of bs + 17 * total_of bs → None ≡ refusal Book (head_checks bs)
head_fits bs h t e =
    let a = h.four in let b = h.one in let c = h.none in let d = h.few in let r = h.reach in
    grind (arith, nat_tests)

pub head_fails : (bs : List ℕ) → Head bs → (total_of bs ≤ 2000 → length bs ≢ 6 + 21 * count_of bs + 17 * total_of bs)
    → Some (record { part = Book; reason = VehicleCount; place = At 0 }) ≡ refusal Book (head_checks bs)
head_fails bs h t =
    let a = h.four in let b = h.one in let c = h.none in let d = h.few in let r = h.reach in
    grind (arith, nat_tests)
