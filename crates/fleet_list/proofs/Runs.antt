-- Readers of one value after another, and of the byte that ends them.
use Rattle.std.proofs.Common.{◌≡◌, ℕ, suc, ◌+◌, ◌<◌, ltb, List, [], ◌∷◌, ◌++◌, length, get_or, drop, Ok, Err, sym, refl, ap, subst, arith, length-drop}
use Rattle.std.specs.List.{flat_map, AllByRecursion}
use Rattle.std.proofs.lemmas.List.{flat_map_more, at_drop_more}
use Rattle.train.specs.declared.refusal.Refusal.{Refusal}
use Rattle.fleet_list.specs.declared.cursor.Cursor.{Cursor}
use Rattle.fleet_list.specs.Cursors.{Stays, Takes, TakesOne, Exactly}
use Rattle.fleet_list.specs.Forms.{Breaks, Front, Refused}
use Rattle.fleet_list.proofs.Seq.{First, Begun, begun_more, begun_read, begun_byte, reads_begun, refused_behind, refused_here}
use Rattle.fleet_list.proofs.Cursors.{stays_on, reads_at, refused_at, no_byte}
use Rattle.fleet_list.proofs.Series.{Many, ended, Apart, all_push, item_breaks, past}

-- these values are read between the two cursors
pub record Along {V : Type 0} (G : V → Type 0) (f : V → List ℕ) (c d : Cursor) (vs : List V) : Type 0 where
  pub stays : Stays c d
  pub good : AllByRecursion G vs
  pub begun : Begun c.text.now c.at (flat_map f vs) d.at

pub along_more : {V R : Type 0} (G : V → Type 0) (f : V → List ℕ) {of : R → V} {c d e : Cursor} {vs : List V} {r : R} → Along G f c d vs → Takes G f of d e (Ok r) → Along G f c e (vs ++ of r ∷ [])
along_more G f {of} {c} {d} {e} {vs} {r} a t = record {
  stays = stays_on a.stays t.stays;
  good = all_push G vs (of r) a.good t.answer.good;
  begun = subst (λ z. Begun c.text.now c.at z e.at) (flat_map_more f [] vs (of r))
      (begun_more c.text.now c.at (flat_map f vs) d.at (f (of r)) e.at a.begun (begun_read G f c.text.now d.at (of r) e.at (reads_at G f (of r) e.at a.stays t.answer)));
}

is_here : (t : List ℕ) (at b : ℕ) (y : List ℕ) → drop at t ≡ b ∷ y → (at < length t) × (get_or t at 0 ≡ b)
is_here t at b y q =
    let l : at < length t = omega (arith, ap length q, length-drop at t) in
    let d = at_drop_more (λ z. z) t at 0 l in
    (l, cc)

module _ {V R : Type 0} (G : V → Type 0) (f : V → List ℕ) (b : ℕ) (fr : Front G f) (apart : Apart G f b) (C : ℕ → Type 0) {c d e : Cursor} {vs : List V} (to : R → List V) where
  -- the next of them breaks; zs may follow it
  pub item_stuck : {S : Type 0} {of : S → V} {x : Refusal} (zs : List V) → C (length vs + suc (length zs)) → AllByRecursion G zs → (C (length vs + 0) → d.at < length d.text.now → get_or d.text.now d.at 0 ≡ b → ⊥)
      → Along G f c d vs → Takes G f of d e (Err x) → Takes (Many G f b C) (ended G f b) to c e (Err x)
  item_stuck {S} {of} {x} zs cz gz never a t =
      let r = refused_at G f x a.stays t.answer in
      let never-here : C (length vs + 0) → d.at < length c.text.now → get_or c.text.now d.at 0 ≡ b → ⊥ = subst (λ z. C (length vs + 0) → d.at < length z → get_or z d.at 0 ≡ b → ⊥) a.stays.text never in
      record {
        stays = stays_on a.stays t.stays;
        answer = refused_behind (Many G f b (λ n. C (length vs + n))) (ended G f b) (Many G f b C) (ended G f b) c.text.now c.at c.line (flat_map f vs) d.at x a.begun
            (record { k = r.k; is = r.is; breaks = item_breaks G f b (λ n. C (length vs + n)) (drop d.at c.text.now) r.k zs cz gz (λ y h q. let i = is_here c.text.now d.at b y q in never-here h i.0 i.1) r.breaks })
            (λ u k z. past G f b fr apart vs a.good C u k z);
      }

  -- they do not end here, and none may follow
  pub end_stuck : {x : Refusal} (P : ℕ → Type 0) (zs : List V) → Many G f b (λ n. C (length vs + n)) zs → First (Many G f b (λ n. C (length vs + n))) (ended G f b) P
      → (d.at < length d.text.now → (get_or d.text.now d.at 0 ≡ b → ⊥) → P (get_or d.text.now d.at 0) → ⊥)
      → Along G f c d vs → TakesOne (Exactly b) d e (Err x) → Takes (Many G f b C) (ended G f b) to c e (Err x)
  end_stuck {x} P zs gz first never a t =
      let r : Refused (Many G f b (λ n. C (length vs + n))) (ended G f b) d.text.now d.at d.line x = refused_here (Many G f b (λ n. C (length vs + n))) (ended G f b) d.text.now d.at d.line x t.answer.0
      (no_byte (Many G f b (λ n. C (length vs + n))) (ended G f b) P d.text.now d.at zs (ltb d.at (length d.text.now)) refl gz first (λ l p. never l (t.answer.1 l) p)) in
      record {
        stays = stays_on a.stays t.stays;
        answer = refused_behind (Many G f b (λ n. C (length vs + n))) (ended G f b) (Many G f b C) (ended G f b) c.text.now c.at c.line (flat_map f vs) d.at x a.begun
            (refused_at (Many G f b (λ n. C (length vs + n))) (ended G f b) x a.stays r) (λ u k z. past G f b fr apart vs a.good C u k z);
      }

  -- they end here
  pub all_taken : {r : R} {u : Unit {0}} → C (length vs) → to r ≡ vs → Along G f c d vs → TakesOne (Exactly b) d e (Ok u) → Takes (Many G f b C) (ended G f b) to c e (Ok r)
  all_taken {r} {u} cv q a t =
      let s : d.text.now ≡ c.text.now = a.stays.text in
      let l : d.at < length c.text.now = subst (λ z. d.at < length z) s t.answer.0 in
      let g : get_or c.text.now d.at 0 ≡ b = subst (λ z. get_or z d.at 0 ≡ b) s t.answer.1 in
      let k : Begun c.text.now d.at (b ∷ []) e.at = subst (λ i. Begun c.text.now d.at (b ∷ []) i) (sym t.answer.2) (begun_byte c.text.now d.at b l g) in
      record {
        stays = stays_on a.stays t.stays;
        answer = subst (λ z. Rattle.fleet_list.specs.Forms.Reads (Many G f b C) (ended G f b) c.text.now c.at z e.at) (sym q)
            (reads_begun (Many G f b C) (ended G f b) c.text.now c.at vs e.at (cv, a.good) (begun_more c.text.now c.at (flat_map f vs) d.at (b ∷ []) e.at a.begun k));
      }
