-- The steps of a run, one after another.
use Rattle.std.proofs.Common.{◌≡◌, ℕ, ◌%◌, ◌^◌, ◌<◌, Bool, true, false, ◌&&◌, eqb, ltb, leb, List, [], ◌∷◌, ◌++◌, map, length, IsErrAnd, IfOk, Some, None, Ok, Err, Option, Result, sym, refl, ap, ◌∙◌, subst, ap₂, arith, MatchResult}
use Rattle.std.proofs.lemmas.Bool.{le-leb, lt-leb, lt-ltb}
use Rattle.std.proofs.lemmas.List.{length-map}
use Rattle.train.specs.declared.entries.Coupled.{Coupled}
use Rattle.train.specs.declared.name.Name.{Name}
use Rattle.train.specs.declared.refusal.Part.TheVariants.{Book, Bench, Composing}
use Rattle.train.specs.declared.refusal.Reason.TheVariants.{IdentityOrder, ZeroCounter, EntryCount}
use Rattle.train.specs.declared.refusal.Refusal.{Refusal}
use Rattle.train.specs.Identities.{is_identity}
use Rattle.train.specs.Rows.{label_in, coupled_in}
use Rattle.train.specs.Refusals.{must, each, alone, refused_at, breach, or_else, refusal, refusal_of}
use Rattle.fleet.specs.Books.{book_checks, fleet_of, meaning_of}
use Rattle.bench.specs.Calls.Call.{inaugurate, confirm}
use Rattle.bench.specs.Facts.{Facts, nothing, checks, after, after_all, some, within}
use Rattle.directory.specs.Composing.{composed_into, checks as composing}
use Rattle.directory.specs.Law.{Side}
use Rattle.directory.specs.Sections.{composition}
use Rattle.directory.specs.Written.{Written}
use Rattle.directory.proofs.Seen.{answered}
use Rattle.linkage.proofs.Tables.{identities_read}
use Rattle.linkage.specs.Plans.{Plan, Step, Played, coupling, confirming, entries, name_of, steps, calls, step_checks, stopped, or_outcome, PlannedInto}

or_else_none : {A : Type 0} (o : Option A) → or_else o None ≡ o
or_else_none None = refl
or_else_none (Some x) = refl

or_else_assoc : {A : Type 0} (o p q : Option A) → or_else o (or_else p q) ≡ or_else (or_else o p) q
or_else_assoc None p q = refl
or_else_assoc (Some x) p q = refl

made_of : {A : Type 0} (r : Result A Refusal) (P : Type 0) → P → IfOk r (λ _. P)
made_of (Ok x) P h = h
made_of (Err f) P h = tt

-- runs one behind another
after-joined : (f : Facts) (ss ts : List Step) → after_all f (calls (ss ++ ts)) ≡ after_all (after_all f (calls ss)) (calls ts)
after-joined f [] ts = refl
after-joined f (s ∷ ss) ts = after-joined (after f s.call) ss ts

stopped-joined : (f : Facts) (ss ts : List Step) → stopped f (ss ++ ts) ≡ or_else (stopped f ss) (stopped (after_all f (calls ss)) ts)
stopped-joined f [] ts = refl
stopped-joined f (s ∷ ss) ts = ap (or_else (refusal Bench (step_checks f s))) (stopped-joined (after f s.call) ss ts) ∙ or_else_assoc (refusal Bench (step_checks f s)) _ _

pub stops_first : (f : Facts) (ss ts : List Step) (x : Refusal) → Some x ≡ stopped f ss → Some x ≡ stopped f (ss ++ ts)
stops_first f ss ts x h = sym (stopped-joined f ss ts ∙ ap (λ o. or_else o (stopped (after_all f (calls ss)) ts)) (sym h))

pub goes_on : {A : Type 0} {B : Type 0} (f g h : Facts) (ss ts : List Step) (u : A) (r : Result B Refusal) → Played f ss (Ok u) g → Played g ts r h → Played f (ss ++ ts) r h
goes_on {B = B} f g h ss ts u r p q = record { answer = q.answer ∙ told; facts = by r q.facts }
  where
    told : stopped g ts ≡ stopped f (ss ++ ts)
    told = ap (λ k. stopped k ts) p.facts ∙ ap (λ o. or_else o (stopped (after_all f (calls ss)) ts)) p.answer ∙ sym (stopped-joined f ss ts)

    by : (r : Result B Refusal) → IfOk r (λ _. h ≡ after_all g (calls ts)) → IfOk r (λ _. h ≡ after_all f (calls (ss ++ ts)))
    by (Ok x) e = e ∙ ap (λ k. after_all k (calls ts)) p.facts ∙ sym (after-joined f ss ts)
    by (Err x) e = tt

-- a refusal that is passed on
pub stops : {A : Type 0} (f g : Facts) (ss : List Step) (r : Result A Refusal) (x : Refusal) → IsErrAnd r (λ y. y ≡ x) → Some x ≡ stopped f ss → Played f ss r g
stops f g ss (Ok u) x e h = absurd e
stops f g ss (Err y) x e h = record { answer = ap Some e ∙ h; facts = tt }

-- a step of whole entries answers as its call does
pub plays : {A : Type 0} (f g : Facts) (s : Step) (r : Result A Refusal) → None ≡ breach Bench (must s.whole EntryCount) → refusal_of r ≡ refusal Bench (checks f s.call)
    → g ≡ after f s.call → Played f (s ∷ []) r g
plays f g s r w e h = record {
  answer = e ∙ ap (λ o. or_else o (refusal Bench (checks f s.call))) w ∙ sym (or_else_none (refusal Bench (step_checks f s)));
  facts = made_of r (g ≡ after f s.call) h;
}

-- the entries that a call was lent
pub coupled : {A : Type 0} (f g : Facts) (etb : ℕ) (bs : List ℕ) (rows : List (List ℕ)) (es : List Coupled) (r : Result A Refusal) → rows ≡ entries 17 bs → es ≡ map coupled_in rows
    → None ≡ breach Bench (must (eqb (length bs % 17) 0) EntryCount) → refusal_of r ≡ refusal Bench (checks f (inaugurate etb es)) → g ≡ after f (inaugurate etb es)
    → Played f (coupling etb bs ∷ []) r g
coupled f g etb bs rows es r er ee w e h =
    let q : es ≡ map coupled_in (entries 17 bs) = ee ∙ ap (map coupled_in) er in
    plays f g (coupling etb bs) r w (e ∙ ap (λ es. refusal Bench (checks f (inaugurate etb es))) q) (h ∙ ap (λ es. after f (inaugurate etb es)) q)

-- bytes that are not none are a confirmed list
listed : List ℕ → Step
listed bs = record { whole = eqb (length bs % 16) 0; call = confirm (map name_of (entries 16 bs)) }

confirms : (bs : List ℕ) → 0 < length bs → confirming bs ≡ listed bs ∷ []
unfolding listed
confirms bs l = let e : some bs ≡ true = le-leb 1 (length bs) (omega arith) in rw e

pub confirmed : {A : Type 0} (f g : Facts) (bs : List ℕ) (rows : List (List ℕ)) (ns : List Name) (r : Result A Refusal) → 0 < length bs → rows ≡ entries 16 bs → ns ≡ map name_of rows
    → None ≡ breach Bench (must (eqb (length bs % 16) 0) EntryCount) → refusal_of r ≡ refusal Bench (checks f (confirm ns)) → g ≡ after f (confirm ns) → Played f (confirming bs) r g
unfolding listed
confirmed f g bs rows ns r l er en w e h =
    let q : ns ≡ map name_of (entries 16 bs) = en ∙ ap (map name_of) er in
    let p = plays f g (listed bs) r w (e ∙ ap (λ ns. refusal Bench (checks f (confirm ns))) q) (h ∙ ap (λ ns. after f (confirm ns)) q) in
    subst (λ ss. Played f ss r g) (sym (confirms bs l)) p

-- the book opened and the run was not stopped, so that the plan composes
pub composes : {A : Type 0} (p : Plan) (g f : Facts) (book : List ℕ) (u : A) (r : Result ℕ Refusal) (before later : List ℕ) → None ≡ refusal Book (book_checks p.book) → book ≡ p.book
    → g ≡ nothing → Played g (steps p) (Ok u) f → refusal_of r ≡ refusal Composing (composing f (meaning_of (fleet_of book)) (length before))
    → MatchResult r (λ n. Written (composition f (meaning_of (fleet_of book))) before n later) (λ _. later ≡ before) → PlannedInto p r before later
composes p g f book u r before later o b z s a w =
    let side : Side = record { run = calls (steps p); fleet = meaning_of (fleet_of book); room = length before } in
    let q = answered side f r before later (s.facts ∙ ap (λ k. after_all k (calls (steps p))) z) refl a w in
    let into = λ (bs : List ℕ). composed_into (after_all nothing (calls (steps p))) (meaning_of (fleet_of bs)) (length before) in
    let none = s.answer ∙ ap (λ k. stopped k (steps p)) z in
    record { outcome = q.outcome ∙ ap into b ∙ ap₂ (λ x y. or_outcome (or_else x y) (into p.book)) o none; buffer = q.buffer }

-- a formation of more entries than a bench takes
third : (a b o rest : Option Refusal) (x : Refusal) → None ≡ a → None ≡ b → Some x ≡ o → Some x ≡ or_else a (or_else b (or_else o rest))
third a b o rest x p q e = ap (λ z. or_else z rest) e ∙ ap (λ z. or_else z (or_else o rest)) q ∙ ap (λ z. or_else z (or_else b (or_else o rest))) p

counted : (a b : Bool) → b ≡ true → None ≡ breach Bench (must a ZeroCounter) → None ≡ breach Bench (must (a && b) ZeroCounter)
counted true b e h = rw e
counted false b e h = h

pub too_long : (etb : ℕ) (rows : List (List ℕ)) (x : Refusal) → 63 < length rows → etb < 2 ^ 32 → None ≡ breach Bench (each (alone (λ row. is_identity (label_in row))) IdentityOrder rows)
    → None ≡ breach Bench (must (ltb 0 etb) ZeroCounter) → x ≡ refused_at Bench EntryCount 0 → Some x ≡ refusal Bench (checks nothing (inaugurate etb (map coupled_in rows)))
too_long etb rows x l k h z e =
    let es = map coupled_in rows in
    let s : length es ≡ length rows = length-map rows coupled_in in
    let m : leb (length es) 63 ≡ false = lt-leb (length es) 63 (omega arith) in
    let n : leb 1 (length es) ≡ true = le-leb 1 (length es) (omega arith) in
    let w : within 1 63 (length es) ≡ false = ap₂ (λ a b. a && b) n m in
    let t : Some x ≡ breach Bench (must (within 1 63 (length es)) EntryCount) = ap Some e ∙ ap (λ b. breach Bench (must b EntryCount)) (sym w) in
    third _ _ _ _ x (h ∙ identities_read rows) (counted (ltb 0 etb) (ltb etb (2 ^ 32)) (lt-ltb etb (2 ^ 32) k) z) t
