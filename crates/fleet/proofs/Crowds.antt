-- No identity has two seats, and what it is for a roster to be full.
use Rattle.std.proofs.Common.{◌≡◌, ℕ, zero, suc, ◌+◌, ◌<◌, ◌≤◌, Bool, true, false, cond, not, ◌&&◌, ◌==◌, List, [], ◌∷◌, ◌++◌, filter, map, length, set, is_some, Some, None, Decides, Option, sym, refl, ap, ◌∙◌, inl, inr, arith}
use Rattle.std.specs.List.{AllByRecursion}
use Rattle.std.specs.Str.{bytes_eq}
use Rattle.std.proofs.ByRecursion.{All-weaker, All-map}
use Rattle.std.proofs.lemmas.Slice.Eq.{bytes_eq-Decides}
use Rattle.std.proofs.lemmas.List.{length-map}
use Rattle.std.proofs.lemmas.Bool.{and_parts, and_from, not-true, not-false, cases_Bool, eqb-true}
use Rattle.std.proofs.lemmas.Bool.Decides.{nat_tests}
use Rattle.train.specs.declared.identity.Identity.{Identity}
use Rattle.train.proofs.Bytes.{nowhere}
use Rattle.fleet.specs.declared.roster.Seat.{Seat}
use Rattle.fleet.specs.Fleets.{Consist, Pairs}
use Rattle.fleet.specs.Rosters.{same_id, announced, Full}
use Rattle.fleet.specs.Seats.{is_here, elsewhere, consist_in, meaning_in, apart_seats}
use Rattle.fleet.specs.Seeks.{find}
use Rattle.fleet.specs.Heads.{never}
use Rattle.fleet.specs.Halves.{same_self, differ, differs}
use Rattle.fleet.specs.Means.{find_ge}
use Rattle.fleet.specs.Changes.{id_same, head_zero, head_suc, none_parts, put_means, push_means, leave_means}
use Rattle.fleet.specs.Sound.{seat_none}

turned : (a b : Identity) → same_id a b ≡ false → same_id b a ≡ false
turned a b e = differ b.bytes a.bytes (λ q. differs a.bytes b.bytes e (sym q))

-- the identity of a seat stands behind it no more
abbrev alone : Seat → List Seat → Bool
alone s ss = not (is_some (meaning_in ss s.identity))

module _ (id : Identity) (q : Seat) (own : q.identity ≡ id) where
  own_alone : (s : Seat) (ss : List Seat) → is_here id s ≡ true → alone s ss ≡ true → alone q ss ≡ true
  own_alone s ss h a =
      let e : s.identity.bytes ≡ q.identity.bytes = id_same s.identity id h ∙ sym (ap (λ (x : Identity). x.bytes) own) in
      ap (λ (b : List ℕ). not (is_some (meaning_in ss (record { bytes = b })))) (sym e) ∙ a

  kept : (s : Seat) (ss rs : List Seat) → is_here id s ≡ false → meaning_in rs s.identity ≡ announced id (consist_in q) (meaning_in ss) s.identity → alone s ss ≡ true → alone s rs ≡ true
  kept s ss rs h m a = ap (λ o. not (is_some o)) (m ∙ without (same_id id s.identity) (turned s.identity id h)) ∙ a
    where
      without : {o : Option Consist} (b : Bool) → b ≡ false → cond b (Some (consist_in q)) o ≡ o
      without true e = nowhere (sym e)
      without false e = refl

  apart_own : (n : ℕ) (ss : List Seat) (k : ℕ) → find (is_here id) n ss ≡ Some (n + k) → apart_seats ss ≡ true → apart_seats (set ss k q) ≡ true
  apart_own n [] k e a = refl
  apart_own n (s ∷ ss) zero e a =
      let h = head_zero (is_here id s) n (find (is_here id) (n + 1) ss) e (λ x. find_ge (is_here id) (n + 1) ss (n + 0) x) in
      let t = and_parts (alone s ss) (apart_seats ss) a in
      and_from (alone q ss) (apart_seats ss) (own_alone s ss h t.0) t.1
  apart_own n (s ∷ ss) (suc k) e a =
      let r = head_suc (is_here id s) n k (find (is_here id) (n + 1) ss) e in
      let t = and_parts (alone s ss) (apart_seats ss) a in
      and_from (alone s (set ss k q)) (apart_seats (set ss k q))
      (kept s ss (set ss k q) r.0 (put_means id s.identity q own (n + 1) ss k r.1) t.0)
      (apart_own (n + 1) ss k r.1 t.1)

  apart_last : (n : ℕ) (ss : List Seat) → find (is_here id) n ss ≡ None → apart_seats ss ≡ true → apart_seats (ss ++ q ∷ []) ≡ true
  apart_last n [] e a = refl
  apart_last n (s ∷ ss) e a =
      let u = none_parts (is_here id s) n (find (is_here id) (n + 1) ss) e in
      let t = and_parts (alone s ss) (apart_seats ss) a in
      and_from (alone s (ss ++ q ∷ [])) (apart_seats (ss ++ q ∷ []))
      (kept s ss (ss ++ q ∷ []) u.0 (push_means id s.identity q own (n + 1) ss u.1) t.0)
      (apart_last (n + 1) ss u.1 t.1)

  pub apart_set : (ss : List Seat) (k : ℕ) → Some k ≡ find (is_here id) 0 ss → apart_seats ss ≡ true → apart_seats (set ss k q) ≡ true
  apart_set ss k f a = let z : k ≡ 0 + k = omega arith in apart_own 0 ss k (sym f ∙ ap (λ (x : ℕ). Some x) z) a

  pub apart_push : (ss : List Seat) → None ≡ find (is_here id) 0 ss → apart_seats ss ≡ true → apart_seats (ss ++ q ∷ []) ≡ true
  apart_push ss f a = apart_last 0 ss (sym f) a

lost : (b : Bool) (o : Option Consist) → not (is_some o) ≡ true → not (is_some (cond b None o)) ≡ true
lost true o n = refl
lost false o n = n

pub apart_filter : (id : Identity) (ss : List Seat) → apart_seats ss ≡ true → apart_seats (filter (elsewhere id) ss) ≡ true
apart_filter id [] a = refl
apart_filter id (s ∷ ss) a =
    let t = and_parts (alone s ss) (apart_seats ss) a in
    by (elsewhere id s) (ap (λ o. not (is_some o)) (leave_means id s.identity ss) ∙ lost (same_id id s.identity) (meaning_in ss s.identity) t.0) (apart_filter id ss t.1)
  where
    by : (b : Bool) → alone s (filter (elsewhere id) ss) ≡ true → apart_seats (filter (elsewhere id) ss) ≡ true → apart_seats (cond b (s ∷ filter (elsewhere id) ss) (filter (elsewhere id) ss)) ≡ true
    by true e k = and_from (alone s (filter (elsewhere id) ss)) (apart_seats (filter (elsewhere id) ss)) e k
    by false e k = k

-- where it has no seat of its own, every seat has another consist
abbrev Apart : Identity → Identity → Type 0
Apart a b = a.bytes ≡ b.bytes → ⊥

more : (s : Seat) (ss : List Seat) (x : Identity) → is_some (meaning_in ss x) ≡ true → is_some (meaning_in (s ∷ ss) x) ≡ true
more s ss x h = go (is_here x s)
  where
    go : (b : Bool) → is_some (cond b (Some (consist_in s)) (meaning_in ss x)) ≡ true
    go true = refl
    go false = h

all_present : (ss : List Seat) → AllByRecursion (λ s. is_some (meaning_in ss s.identity) ≡ true) ss
all_present [] = tt
all_present (s ∷ ss) =
    let h : is_here s.identity s ≡ true = same_self s.identity.bytes in
    (rw h refl, All-weaker (λ t. is_some (meaning_in ss t.identity) ≡ true) (λ t. is_some (meaning_in (s ∷ ss) t.identity) ≡ true) (λ t k. more s ss t.identity k) ss (all_present ss))

away : (id : Identity) (ss : List Seat) → is_some (meaning_in ss id) ≡ false → AllByRecursion (λ s. Apart id s.identity) ss
away id [] n = tt
away id (s ∷ ss) n =
    let t = split (is_here id s) (consist_in s) (meaning_in ss id) n in
    (λ e. differs s.identity.bytes id.bytes t.0 (sym e), away id ss t.1)
  where
    split : (b : Bool) (c : Consist) (o : Option Consist) → is_some (cond b (Some c) o) ≡ false → (b ≡ false) × (is_some o ≡ false)
    split true c o e = nowhere (sym e)
    split false c o e = (refl, e)

all_apart : (ss : List Seat) → apart_seats ss ≡ true → Pairs Apart (map (λ s. s.identity) ss)
all_apart [] a = tt
all_apart (s ∷ ss) a =
    let t = and_parts (alone s ss) (apart_seats ss) a in
    (All-map (Apart s.identity) (λ s. s.identity) ss (away s.identity ss (not-true _ t.0)), all_apart ss t.1)

crowded : (ss : List Seat) (id : Identity) → length ss ≡ 63 → apart_seats ss ≡ true → find (is_here id) 0 ss ≡ None → Full (meaning_in ss) id
crowded ss id l a h =
    record {
      others = map (λ s. s.identity) ss;
      count = length-map ss (λ s. s.identity) ∙ l;
      apart = all_apart ss a;
      other = All-map (λ x. x.bytes ≡ id.bytes → ⊥) (λ s. s.identity) ss (All-weaker (λ s. Apart id s.identity) (λ s. s.identity.bytes ≡ id.bytes → ⊥) (λ s n e. n (sym e)) ss (away id ss (ap is_some (seat_none id 0 ss h))));
      present = All-map (λ x. is_some (meaning_in ss x) ≡ true) (λ s. s.identity) ss (all_present ss);
    }

-- and where it has a seat of its own, fewer other consists than seats stand
abbrev others : Identity → List Seat → ℕ
others id [] = 0
others id (s ∷ ss) = cond (elsewhere id s) 1 0 + others id ss

most_go : (b : Bool) (m n : ℕ) → m ≤ n → cond b 1 0 + m ≤ suc n
most_go true m n h = omega arith
most_go false m n h = omega arith

others_most : (id : Identity) (ss : List Seat) → others id ss ≤ length ss
others_most id [] = omega arith
others_most id (s ∷ ss) = most_go (elsewhere id s) (others id ss) (length ss) (others_most id ss)

fewer_go : (t b : Bool) (n k m l : ℕ) (o : Option ℕ) → cond t (Some n) o ≡ Some k → (t ≡ true → b ≡ false) → m ≤ l → (o ≡ Some k → m < l) → cond b 1 0 + m < suc l
fewer_go true true n k m l o e f h g = nowhere (sym (f refl))
fewer_go true false n k m l o e f h g = omega arith
fewer_go false true n k m l o e f h g = let q = g e in omega arith
fewer_go false false n k m l o e f h g = let q = g e in omega arith

others_fewer : (id : Identity) (n : ℕ) (ss : List Seat) (k : ℕ) → find (is_here id) n ss ≡ Some k → others id ss < length ss
others_fewer id n [] k e = never k (sym e)
others_fewer id n (s ∷ ss) k e =
    fewer_go (is_here id s) (elsewhere id s) n k (others id ss) (length ss) (find (is_here id) (n + 1) ss) e (λ h. ap not h) (others_most id ss) (λ q. others_fewer id (n + 1) ss k q)

-- a list of different identities, with one taken out
record Without (b : List ℕ) (P : Identity → Type 0) (xs : List Identity) : Type 0 where
  pub rest : List Identity
  pub few : length xs ≤ suc (length rest)
  pub apart : Pairs Apart rest
  pub each : AllByRecursion P rest
  pub gone : AllByRecursion (λ x. bytes_eq b x.bytes ≡ false) rest

both : (P Q : Identity → Type 0) (xs : List Identity) → AllByRecursion P xs → AllByRecursion Q xs → AllByRecursion (λ x. P x × Q x) xs
both P Q [] h k = tt
both P Q (x ∷ xs) h k = ((h.0, k.0), both P Q xs h.1 k.1)

without : (b : List ℕ) (P : Identity → Type 0) (xs : List Identity) → Pairs Apart xs → AllByRecursion P xs → Without b P xs
without b P [] p h = record { rest = []; few = omega arith; apart = tt; each = tt; gone = tt }
without b P (x ∷ xs) p h =
    elim (cases_Bool (bytes_eq b x.bytes)) [
      | inl e ↦
          let q : b ≡ x.bytes = (bytes_eq-Decides b x.bytes).0 e in
          record {
            rest = xs;
            few = omega arith;
            apart = p.1;
            each = h.1;
            gone = All-weaker (Apart x) (λ y. bytes_eq b y.bytes ≡ false) (λ y n. differ b y.bytes (λ r. n (sym q ∙ r))) xs p.0;
          }
      | inr e ↦
          let r = without b (λ y. P y × Apart x y) xs p.1 (both P (Apart x) xs h.1 p.0) in
          let f = r.few in
          record {
            rest = x ∷ r.rest;
            few = omega arith;
            apart = (All-weaker (λ y. P y × Apart x y) (Apart x) (λ y k. k.1) r.rest r.each, r.apart);
            each = (h.0, All-weaker (λ y. P y × Apart x y) P (λ y k. k.0) r.rest r.each);
            gone = (e, r.gone);
          }
    ]

-- an identity that a seat does not hold is present behind it
present_behind : (s : Seat) (ss : List Seat) (x : Identity) → is_here x s ≡ false → is_some (meaning_in (s ∷ ss) x) ≡ true → is_some (meaning_in ss x) ≡ true
present_behind s ss x h p = rw h at p

-- different identities, all present and none of them `id`, are as many as the seats with others at most
abbrev Stands : Identity → List Seat → Identity → Type 0
Stands id ss x = Apart x id × (is_some (meaning_in ss x) ≡ true)

step : (id : Identity) (s : Seat) (ss : List Seat) (x : Identity) → is_here x s ≡ false → Stands id (s ∷ ss) x → Stands id ss x
step id s ss x h p = (p.0, present_behind s ss x h p.1)

not_here : (id : Identity) (s : Seat) (x : Identity) → elsewhere id s ≡ false → Apart x id → is_here x s ≡ false
not_here id s x o n =
    let e = id_same s.identity id (not-false (is_here id s) o) in
    differ s.identity.bytes x.bytes (λ q. n (sym q ∙ e))

crowd : (id : Identity) (ss : List Seat) (xs : List Identity) → Pairs Apart xs → AllByRecursion (Stands id ss) xs → length xs ≤ others id ss
crowd id [] [] p h = omega arith
crowd id [] (x ∷ xs) p h = nowhere h.0.1
crowd id (s ∷ ss) xs p h =
    elim (cases_Bool (elsewhere id s)) [
      | inl o ↦
          let r = without s.identity.bytes (Stands id (s ∷ ss)) xs p h in
          let a = joined (λ x. bytes_eq s.identity.bytes x.bytes ≡ false) (Stands id (s ∷ ss)) (Stands id ss) (λ x g k. step id s ss x g k) r.rest r.gone r.each in
          let c = crowd id ss r.rest r.apart a in
          let f = r.few in
          let z : cond {A = ℕ} (elsewhere id s) 1 0 ≡ 1 = ap (λ (b : Bool). cond {A = ℕ} b 1 0) o in
          omega arith
      | inr o ↦
          let a = All-weaker (Stands id (s ∷ ss)) (Stands id ss) (λ x k. step id s ss x (not_here id s x o k.0) k) xs h in
          let c = crowd id ss xs p a in
          omega arith
    ]
  where
    joined : (P Q R : Identity → Type 0) → ((x : Identity) → P x → Q x → R x) → (xs : List Identity) → AllByRecursion P xs → AllByRecursion Q xs → AllByRecursion R xs
    joined P Q R f [] h k = tt
    joined P Q R f (x ∷ xs) h k = (f x h.0 k.0, joined P Q R f xs h.1 k.1)

uncrowded : (ss : List Seat) (id : Identity) → others id ss < 63 → Full (meaning_in ss) id → ⊥
uncrowded ss id h f =
    let c = crowd id ss f.others f.apart (both (λ x. Apart x id) (λ x. is_some (meaning_in ss x) ≡ true) f.others f.other f.present) in
    let n = f.count in
    omega arith

-- no seat is left for a consist exactly where the roster is full
abbrev pub crammed : Identity → List Seat → Bool
crammed id ss = not (is_some (find (is_here id) 0 ss)) && length ss == 63

decided_go : (ss : List Seat) (id : Identity) (o : Option ℕ) (b : Bool) → length ss ≤ 63 → apart_seats ss ≡ true → find (is_here id) 0 ss ≡ o → (length ss == 63) ≡ b
    → Decides (not (is_some o) && b) (Full (meaning_in ss) id)
decided_go ss id None true l a h f = (λ _. crowded ss id (eqb-true (length ss) 63 f) a h, λ _. refl)
decided_go ss id None false l a h f =
    (λ e. nowhere e, λ c. let m = others_most id ss in let s : length ss < 63 = grind (arith, nat_tests) in absurd (uncrowded ss id (omega (arith, m, s)) c))
decided_go ss id (Some k) b l a h f = (λ e. nowhere e, λ c. let m = others_fewer id 0 ss k h in absurd (uncrowded ss id (omega (arith, m, l)) c))

pub full_decided : (ss : List Seat) (id : Identity) → length ss ≤ 63 → apart_seats ss ≡ true → Decides (crammed id ss) (Full (meaning_in ss) id)
full_decided ss id l a = decided_go ss id (find (is_here id) 0 ss) (length ss == 63) l a refl refl
