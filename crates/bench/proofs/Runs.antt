-- The facts after a run are exactly those that stand in it.
use Rattle.std.proofs.Common.{◌≡◌, ℕ, ◌≤◌, Bool, true, false, eqb, leb, ◌⊎◌, ◌↔◌, List, [], ◌∷◌, ◌++◌, length, Some, None, Option, sym, refl, ap, ◌∙◌, subst, ap₂, inl, inr, append_assoc, append-nil, arith}
use Rattle.std.proofs.lemmas.Bool.Decides.{not_from_Decides}
use Rattle.std.proofs.lemmas.Bool.{and_parts, leb-true, eqb-true, eqb-false, cases_Bool}
use Rattle.train.specs.declared.identity.Identity.{Identity}
use Rattle.train.specs.declared.facing.Facing.{Facing}
use Rattle.train.specs.declared.facing.Facing.TheVariants.{NotKnown, Direct, Inverse}
use Rattle.train.specs.Facings.{code}
use Rattle.train.specs.Identities.{same_identity}
use Rattle.std.specs.List.{AllByRecursion}
use Rattle.train.proofs.Names.{every_decides}
use Rattle.train.proofs.Equal.{same_identity_decides}
use Rattle.bench.specs.declared.claims.Claim.{Claim}
use Rattle.bench.specs.Calls.{Call}
use Rattle.bench.specs.Calls.Call.{inaugurate, claim, yield, confirm, withdraw}
use Rattle.bench.specs.Facts.{Facts, nothing, after_all, after, done, accepted, checks, put, within, directed}
use Rattle.bench.specs.Standing.{Fact, setting, Taken, Ends, Untouched, Stands, Holds}
use Rattle.bench.specs.Standing.Fact.{coupled, claimed, listed}

nowhere : {X : Type 0} → ◌≡◌ {A = ℕ} 0 1 → X
nowhere z = absurd (omega arith)

pub after_all-append : (f : Facts) (a b : List Call) → after_all f (a ++ b) ≡ after_all (after_all f a) b
after_all-append f [] b = refl
after_all-append f (k ∷ a) b = after_all-append (after f k) a b

-- one call more
pub after_all_push : (before : List Call) (k : Call) → after_all nothing (before ++ k ∷ []) ≡ after (after_all nothing before) k
after_all_push before k = after_all-append nothing before (k ∷ [])

pub accepted_does : (f : Facts) (k : Call) → accepted f k ≡ true → after f k ≡ done f k
accepted_does f k e = rw e

pub refused_leaves : (f : Facts) (k : Call) → accepted f k ≡ false → after f k ≡ f
refused_leaves f k e = rw e

-- every check of an accepted call is met
pub met : (f : Facts) (k : Call) → accepted f k ≡ true → AllByRecursion (λ c. c.ok ≡ true) (checks f k)
met f k e = (every_decides (λ c. c.ok) (λ c. c.ok ≡ true) (λ c. (λ z. z, λ z. z)) (checks f k)).0 e

sized : (n : ℕ) → within 1 63 n ≡ true → 1 ≤ n
sized n e = leb-true 1 n (and_parts (leb 1 n) (leb n 63) e).0

way_back : (f : Facing) → directed (code f) ≡ f
way_back NotKnown = refl
way_back Direct = refl
way_back Inverse = refl

ways : (d : ℕ) → within 1 2 d ≡ true → code (directed d) ≡ d
ways d h =
    let w = and_parts (leb 1 d) (leb d 2) h in
    by (cases_Bool (eqb d 1)) (cases_Bool (eqb d 2)) (leb-true 1 d w.0) (leb-true d 2 w.1)
  where
    by : (eqb d 1 ≡ true) ⊎ (eqb d 1 ≡ false) → (eqb d 2 ≡ true) ⊎ (eqb d 2 ≡ false) → 1 ≤ d → d ≤ 2 → code (directed d) ≡ d
    by (inl a) q l m = rw a (sym (eqb-true d 1 a))
    by (inr a) (inl b) l m = rw (a, b) (sym (eqb-true d 2 b))
    by (inr a) (inr b) l m = absurd (apart (eqb-false d 1 a) (eqb-false d 2 b) l m)
      where
        apart : (d ≡ 1 → ⊥) → (d ≡ 2 → ⊥) → 1 ≤ d → d ≤ 2 → ⊥
        apart p q l m = omega arith

-- One call: what it sets, what it spares, and where what holds after it comes from.
sets : (f : Facts) (fact : Fact) → accepted f (setting fact) ≡ true → Holds (done f (setting fact)) fact
sets f (coupled n es) e = (refl, refl, sized (length es) (met f (inaugurate n es) e).1.1.0)
sets f (claimed x c) e =
    let same = (same_identity_decides x x).1 refl in
    rw same (ap (λ d. Some (record { vehicle = c.vehicle; direction = d })) (way_back c.direction))
sets f (listed ns) e = (refl, sized (length ns) (met f (confirm ns) e).0)

put_spares : (held : Identity → Option Claim) (x y : Identity) (o : Option Claim) → (x ≡ y → ⊥) → put held y o x ≡ held x
put_spares held x y o h = by (same_identity y x) refl
  where
    by : (b : Bool) → same_identity y x ≡ b → put held y o x ≡ held x
    by true e = absurd (h (sym ((same_identity_decides y x).0 e)))
    by false e = rw e

spared : (f : Facts) (fact : Fact) (k : Call) → (Ends fact k → ⊥) → Holds f fact → Holds (done f k) fact
spared f fact (inaugurate n es) h p = absurd (h tt)
spared f (coupled n es) (claim y v d) h p = p
spared f (claimed x c) (claim y v d) h p = put_spares f.claims x y _ h ∙ p
spared f (listed ns) (claim y v d) h p = p
spared f (coupled n es) (yield y) h p = p
spared f (claimed x c) (yield y) h p = put_spares f.claims x y None h ∙ p
spared f (listed ns) (yield y) h p = p
spared f (coupled n es) (confirm ks) h p = p
spared f (claimed x c) (confirm ks) h p = p
spared f (listed ns) (confirm ks) h p = absurd (h tt)
spared f (coupled n es) withdraw h p = p
spared f (claimed x c) withdraw h p = p
spared f (listed ns) withdraw h p = absurd (h tt)

not_empty : {X : Type 0} (xs : List X) → [] ≡ xs → 1 ≤ length xs → ⊥
not_empty [] e h = omega arith
not_empty (x ∷ xs) e h = nowhere (cc)

origin : (f : Facts) (fact : Fact) (k : Call) → accepted f k ≡ true → Holds (done f k) fact → (k ≡ setting fact) ⊎ ((Ends fact k → ⊥) × Holds f fact)
origin f (coupled n es) (inaugurate a bs) t p = inl (ap₂ inaugurate p.0 p.1)
origin f (claimed x c) (inaugurate a bs) t p = nowhere (cc)
origin f (listed ns) (inaugurate a bs) t p = absurd (not_empty ns p.0 p.1)
origin f (coupled n es) (claim y v d) t p = inr (λ z. z, p)
origin f (claimed x c) (claim y v d) t p =
    let range = (met f (claim y v d) t).1.1.1.0 in
    by (ways d (and_parts (within 1 32 v) (within 1 2 d) range).1) (same_identity y x) refl
  where
    by : code (directed d) ≡ d → (b : Bool) → same_identity y x ≡ b → (claim y v d ≡ claim x c.vehicle (code c.direction)) ⊎ ((x ≡ y → ⊥) × (f.claims x ≡ Some c))
    by w true q =
        let p' = rw q at p in
        let e : record { vehicle = v; direction = directed d } ≡ c = cc in
        let way : d ≡ code c.direction = sym w ∙ ap (λ z. code z.direction) e in
        let same = (same_identity_decides y x).0 q in
        inl (λ i. claim (same i) (e i).vehicle (way i))
    by w false q = inr (λ z. not_from_Decides (same_identity y x) (same_identity_decides y x) q (sym z), rw q at p)
origin f (listed ns) (claim y v d) t p = inr (λ z. z, p)
origin f (coupled n es) (yield y) t p = inr (λ z. z, p)
origin f (claimed x c) (yield y) t p = by (same_identity y x) refl
  where
    by : (b : Bool) → same_identity y x ≡ b → (yield y ≡ claim x c.vehicle (code c.direction)) ⊎ ((x ≡ y → ⊥) × (f.claims x ≡ Some c))
    by true q = let p' = rw q at p in nowhere (cc)
    by false q = inr (λ z. not_from_Decides (same_identity y x) (same_identity_decides y x) q (sym z), rw q at p)
origin f (listed ns) (yield y) t p = inr (λ z. z, p)
origin f (coupled n es) (confirm ks) t p = inr (λ z. z, p)
origin f (claimed x c) (confirm ks) t p = inr (λ z. z, p)
origin f (listed ns) (confirm ks) t p = inl (ap confirm p.0)
origin f (coupled n es) withdraw t p = inr (λ z. z, p)
origin f (claimed x c) withdraw t p = inr (λ z. z, p)
origin f (listed ns) withdraw t p = absurd (not_empty ns p.0 p.1)

none_holds : (fact : Fact) → Holds nothing fact → ⊥
none_holds (coupled n es) p = not_empty es p.1 p.2
none_holds (claimed x c) p = nowhere (cc)
none_holds (listed ns) p = not_empty ns p.0 p.1

-- What stands holds.
step_kept : (f : Facts) (fact : Fact) (k : Call) (b : Bool) → accepted f k ≡ b → (b ≡ true → Ends fact k → ⊥) → Holds f fact → Holds (after f k) fact
step_kept f fact k true e h p = subst (λ z. Holds z fact) (sym (accepted_does f k e)) (spared f fact k (h refl) p)
step_kept f fact k false e h p = subst (λ z. Holds z fact) (sym (refused_leaves f k e)) p

kept : (fact : Fact) (before rest : List Call) → Holds (after_all nothing before) fact → Untouched fact before rest → Holds (after_all (after_all nothing before) rest) fact
kept fact before [] p u = p
kept fact before (k ∷ rest) p u =
    let f : Facts = after_all nothing before in
    let q : Holds (after f k) fact = step_kept f fact k (accepted f k) refl u.0 p in
    let r = kept fact (before ++ k ∷ []) rest (subst (λ z. Holds z fact) (sym (after_all_push before k)) q) u.1 in
    subst (λ z. Holds (after_all z rest) fact) (after_all_push before k) r

read : (run : List Call) (fact : Fact) → Stands run fact → Holds (after_all nothing run) fact
read run fact s =
    let f : Facts = after_all nothing s.before in
    let p : Holds (after_all nothing (s.before ++ setting fact ∷ [])) fact = subst (λ z. Holds z fact) (sym (after_all_push s.before (setting fact) ∙ accepted_does f (setting fact) s.was_taken)) (sets f fact s.was_taken) in
    let e : after_all nothing run ≡ after_all (after_all nothing (s.before ++ setting fact ∷ [])) s.rest =
    ap (after_all nothing) (s.split ∙ sym (append_assoc s.before (setting fact ∷ []) s.rest)) ∙ after_all-append nothing (s.before ++ setting fact ∷ []) s.rest in
    subst (λ z. Holds z fact) (sym e) (kept fact (s.before ++ setting fact ∷ []) s.rest p s.untouched)

-- What holds stands.
untouched_push : (fact : Fact) (k : Call) (before rest : List Call) → (Taken (before ++ rest) k → Ends fact k → ⊥) → Untouched fact before rest → Untouched fact before (rest ++ k ∷ [])
untouched_push fact k before [] h u = (rw append-nil at h, tt)
untouched_push fact k before (j ∷ rest) h u = (u.0, untouched_push fact k (before ++ j ∷ []) rest (rw append_assoc h) u.1)

extend : (before : List Call) (fact : Fact) (k : Call) → (Taken before k → Ends fact k → ⊥) → Stands before fact → Stands (before ++ k ∷ []) fact
extend before fact k h s =
    record {
      before = s.before;
      rest = s.rest ++ k ∷ [];
      split = ap (λ z. z ++ k ∷ []) s.split ∙ append_assoc s.before (setting fact ∷ s.rest) (k ∷ []);
      was_taken = s.was_taken;
      untouched = untouched_push fact k (s.before ++ setting fact ∷ []) s.rest (subst (λ z. Taken z k → Ends fact k → ⊥) (s.split ∙ sym (append_assoc s.before (setting fact ∷ []) s.rest)) h) s.untouched;
    }

abbrev Told : List Call → Fact → Type 0
Told run fact = Holds (after_all nothing run) fact → Stands run fact

one_more : (before : List Call) (fact : Fact) (k : Call) (b : Bool) → accepted (after_all nothing before) k ≡ b → Told before fact → Told (before ++ k ∷ []) fact
one_more before fact k true e t p = by (origin f fact k e (subst (λ z. Holds z fact) (after_all_push before k ∙ accepted_does f k e) p))
  where
    f : Facts
    f = after_all nothing before

    by : (k ≡ setting fact) ⊎ ((Ends fact k → ⊥) × Holds f fact) → Stands (before ++ k ∷ []) fact
    by (inl q) = record { before = before; rest = []; split = ap (λ z. before ++ z ∷ []) q; was_taken = subst (Taken before) q e; untouched = tt }
    by (inr q) = extend before fact k (λ _. q.0) (t q.1)
one_more before fact k false e t p =
    extend before fact k (λ h _. nowhere (cc)) (t (subst (λ z. Holds z fact) (after_all_push before k ∙ refused_leaves (after_all nothing before) k e) p))

told : (before rest : List Call) (fact : Fact) → Told before fact → Told (before ++ rest) fact
told before [] fact t = rw append-nil t
told before (k ∷ rest) fact t =
    subst (λ z. Told z fact) (append_assoc before (k ∷ []) rest)
    (told (before ++ k ∷ []) rest fact (one_more before fact k (accepted (after_all nothing before) k) refl t))

pub stands : (run : List Call) (fact : Fact) → Holds (after_all nothing run) fact ↔ Stands run fact
stands run fact = (told [] run fact (λ p. absurd (none_holds fact p)), read run fact)

-- two runs with one set of facts
pub alike : (a b : List Call) (fact other : Fact) → (Holds (after_all nothing a) fact ↔ Holds (after_all nothing b) other) → (Stands a fact ↔ Stands b other)
alike a b fact other h = (λ s. (stands b other).0 (h.0 ((stands a fact).1 s)), λ s. (stands a fact).0 (h.1 ((stands b other).1 s)))

pub told_alike : (a b : List Call) (fact other : Fact) → (Stands a fact ↔ Stands b other) → (Holds (after_all nothing a) fact ↔ Holds (after_all nothing b) other)
told_alike a b fact other h = (λ p. (stands b other).1 (h.0 ((stands a fact).0 p)), λ p. (stands a fact).1 (h.1 ((stands b other).0 p)))
