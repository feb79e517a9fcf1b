-- What a change of one seat does to the meaning.
use Rattle.std.specs.Prelude.{◌≡◌, ℕ, zero, suc, ◌+◌, ◌≤◌, Bool, true, false, cond, List, [], ◌∷◌, ◌++◌, filter, is_some, Some, None, Option, slice_set, refl}
use Rattle.std.proofs.Common.{sym, ap, ◌∙◌, arith}
use Rattle.std.specs.Str.{bytes_eq}
use Rattle.std.proofs.lemmas.Slice.Eq.{bytes_eq-Decides}
use Rattle.train.specs.declared.identity.Identity.{Identity}
use Rattle.fleet.specs.declared.roster.Seat.{Seat}
use Rattle.fleet.specs.Fleets.{Consist}
use Rattle.fleet.specs.Rosters.{same_id, announced, forgotten}
use Rattle.fleet.specs.Seats.{is_here, elsewhere, consist_in, meaning_in}
use Rattle.fleet.specs.Seeks.{find}
use Rattle.fleet.specs.Heads.{never}
use Rattle.fleet.specs.Means.{find_ge}

-- a seat answers to one identity only
pub id_same : (a b : Identity) → same_id a b ≡ true → a.bytes ≡ b.bytes
id_same a b h = (bytes_eq-Decides a.bytes b.bytes).0 h

pub other_not : (id other : Identity) (p : Seat) → is_here id p ≡ true → same_id id other ≡ false → is_here other p ≡ false
other_not id other p e f = ap (λ (x : List ℕ). bytes_eq x other.bytes) (id_same p.identity id e) ∙ f

pub same_not : (id other : Identity) (p : Seat) → is_here id p ≡ false → same_id id other ≡ true → is_here other p ≡ false
same_not id other p e f = ap (λ (x : List ℕ). bytes_eq p.identity.bytes x) (sym (id_same id other f)) ∙ e

-- the seats of the other consists
leave_go : (id other : Identity) (p : Seat) (ps : List Seat) (b s : Bool) → is_here id p ≡ b → same_id id other ≡ s
    → meaning_in (filter (elsewhere id) ps) other ≡ cond s None (meaning_in ps other) → meaning_in (filter (elsewhere id) (p ∷ ps)) other ≡ cond s None (meaning_in (p ∷ ps) other)
leave_go id other p ps true true e f g = rw e g
leave_go id other p ps true false e f g = let h = other_not id other p e f in rw (e, h) g
leave_go id other p ps false true e f g = let h = same_not id other p e f in rw (e, h) g
leave_go id other p ps false false e f g = rw (e, g) refl

none_none : (s : Bool) → ◌≡◌ {A = Option Consist} None (cond s None None)
none_none true = refl
none_none false = refl

pub leave_means : (id other : Identity) (ps : List Seat) → meaning_in (filter (elsewhere id) ps) other ≡ forgotten id (meaning_in ps) other
leave_means id other [] = none_none (same_id id other)
leave_means id other (p ∷ ps) = leave_go id other p ps (is_here id p) (same_id id other) refl refl (leave_means id other ps)

-- what a search found
pub head_zero : (b : Bool) (n : ℕ) (o : Option ℕ) → cond b (Some n) o ≡ Some (n + 0) → (o ≡ Some (n + 0) → n + 1 ≤ n + 0) → b ≡ true
head_zero true n o e f = refl
head_zero false n o e f = let q = f e in absurd (omega arith)

pub head_suc : (b : Bool) (n k : ℕ) (o : Option ℕ) → cond b (Some n) o ≡ Some (n + suc k) → (b ≡ false) × (o ≡ Some (n + 1 + k))
head_suc true n k o e = let q : n ≡ n + suc k = cc in absurd (omega arith)
head_suc false n k o e = let z : n + suc k ≡ n + 1 + k = omega arith in (refl, e ∙ ap (λ (x : ℕ). Some x) z)

pub none_parts : (b : Bool) (n : ℕ) (o : Option ℕ) → cond b (Some n) o ≡ None → (b ≡ false) × (o ≡ None)
none_parts true n o e = never n e
none_parts false n o e = (refl, e)

pub answers : (id other : Identity) (q : Seat) → q.identity ≡ id → is_here other q ≡ same_id id other
answers id other q own = ap (λ x. same_id x other) own

absent_go : (b : Bool) (n : ℕ) (o : Option ℕ) (c : Consist) (m : Option Consist) → is_some o ≡ is_some m → is_some (cond b (Some n) o) ≡ is_some (cond b (Some c) m)
absent_go true n o c m e = refl
absent_go false n o c m e = e

module _ (id other : Identity) (q : Seat) (own : q.identity ≡ id) where
  hq : is_here other q ≡ same_id id other
  hq = answers id other q own

  -- the changed seat itself
  hit : (p : Seat) (m : Option Consist) (s : Bool) → same_id id other ≡ s → (s ≡ false → is_here other p ≡ false) → cond (is_here other q) (Some (consist_in q)) m ≡ cond s (Some (consist_in q)) (cond (is_here other p) (Some (consist_in p)) m)
  hit p m true f h = let k = hq in rw (k, f) refl
  hit p m false f h = let g = h refl in let k = hq in rw (k, f, g) refl

  -- a seat before it
  skip : (p : Seat) (m n : Option Consist) (s : Bool) → same_id id other ≡ s → is_here id p ≡ false → n ≡ cond s (Some (consist_in q)) m → cond (is_here other p) (Some (consist_in p)) n ≡ cond s (Some (consist_in q)) (cond (is_here other p) (Some (consist_in p)) m)
  skip p m n true f h g = let k = same_not id other p h f in rw k g
  skip p m n false f h g = rw g refl

  put_from : (n : ℕ) (ps : List Seat) (k : ℕ) → find (is_here id) n ps ≡ Some (n + k) → meaning_in (slice_set ps k q) other ≡ announced id (consist_in q) (meaning_in ps) other
  put_from n [] k e = never (n + k) (sym e)
  put_from n (p ∷ ps) zero e =
      let h = head_zero (is_here id p) n (find (is_here id) (n + 1) ps) e (λ x. find_ge (is_here id) (n + 1) ps (n + 0) x) in
      hit p (meaning_in ps other) (same_id id other) refl (λ f. other_not id other p h f)
  put_from n (p ∷ ps) (suc k) e =
      let t = head_suc (is_here id p) n k (find (is_here id) (n + 1) ps) e in
      skip p (meaning_in ps other) (meaning_in (slice_set ps k q) other) (same_id id other) refl t.0 (put_from (n + 1) ps k t.1)

  push_from : (n : ℕ) (ps : List Seat) → find (is_here id) n ps ≡ None → meaning_in (ps ++ q ∷ []) other ≡ announced id (consist_in q) (meaning_in ps) other
  push_from n [] e = ap (λ b. cond b (Some (consist_in q)) None) hq
  push_from n (p ∷ ps) e =
      let u = none_parts (is_here id p) n (find (is_here id) (n + 1) ps) e in
      skip p (meaning_in ps other) (meaning_in (ps ++ q ∷ []) other) (same_id id other) refl u.0 (push_from (n + 1) ps u.1)

  -- a consist put into its seat, and one behind the others
  pub put_means : (n : ℕ) (ps : List Seat) (k : ℕ) → find (is_here id) n ps ≡ Some (n + k) → meaning_in (slice_set ps k q) other ≡ announced id (consist_in q) (meaning_in ps) other
  put_means = put_from

  pub push_means : (n : ℕ) (ps : List Seat) → find (is_here id) n ps ≡ None → meaning_in (ps ++ q ∷ []) other ≡ announced id (consist_in q) (meaning_in ps) other
  push_means = push_from

-- what is absent has no seat, and the other way round
pub absent : (id : Identity) (n : ℕ) (ps : List Seat) → is_some (find (is_here id) n ps) ≡ is_some (meaning_in ps id)
absent id n [] = refl
absent id n (p ∷ ps) = absent_go (is_here id p) n (find (is_here id) (n + 1) ps) (consist_in p) (meaning_in ps id) (absent id (n + 1) ps)
