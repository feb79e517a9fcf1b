-- What readers do to a cursor, one behind another.
use Rattle.std.proofs.Common.{◌≡◌, ℕ, ◌+◌, ◌<◌, Bool, true, false, ltb, ◌↔◌, List, [], ◌∷◌, ◌++◌, length, get_or, drop, Some, None, Ok, Err, Option, Result, sym, refl, ap, ◌∙◌, subst, arith, ltb-true, ltb-false}
use Rattle.std.specs.Bool.{IsTrue}
use Rattle.std.specs.Prelude.{IsErrAnd}
use Rattle.std.proofs.lemmas.Result.{err_from_is_err_and}
use Rattle.std.proofs.lemmas.List.{at_drop_more}
use Rattle.train.specs.declared.refusal.Refusal.{Refusal}
use Rattle.fleet_list.specs.declared.cursor.Cursor.{Cursor}
use Rattle.fleet_list.specs.Cursors.{Stays, Takes, TakesOne, OnByte, Exactly, IsAt}
use Rattle.fleet_list.specs.Forms.{Front, Both, joint, Reads, Refused, Breaks}
use Rattle.fleet_list.proofs.Seq.{First, nothing_there, wrong_there, reads_byte, refused_here, reads_both, refused_first, refused_second, refused_same, reads, at_place, byte_front}

on_byte : {R : Type 0} (post post' : ℕ → Option R → Type 0) (c d : Cursor) (r : Result R Refusal) → ((o : Option R) → c.at < length c.text.now → post (get_or c.text.now c.at 0) o → post' (get_or c.text.now c.at 0) o) → OnByte post c d r → OnByte post' c d r
on_byte post post' c d (Ok v) to a = (a.0, to _ a.0 a.1, a.2)
on_byte post post' c d (Err f) to a = (a.0, λ l. to _ l (a.1 l))

-- the same byte, of which more is said
pub say_more : {R : Type 0} {post post' : ℕ → Option R → Type 0} {c d : Cursor} {r : Result R Refusal} → TakesOne post c d r → ((x : ℕ) (o : Option R) → post x o → post' x o) → TakesOne post' c d r
say_more {R} {post} {post'} {c} {d} {r} t to = record { stays = t.stays; answer = on_byte post post' c d r (λ o l p. to _ o p) t.answer }

-- where a byte is not found, and where it must be
pub not_at : {b : ℕ} {c : Cursor} {t : Bool} → (IsTrue t ↔ IsAt b c) → t ≡ false → c.at < length c.text.now → get_or c.text.now c.at 0 ≡ b → ⊥
not_at {b} {c} {t} h e l q = let k : t ≡ true = h.1 (record { more = l; byte = q }) in let z : false ≡ true = sym e ∙ k in cc

pub at_refused : {b : ℕ} {c d : Cursor} {x : Refusal} → IsAt b c → TakesOne {R = Unit {0}} (Exactly b) c d (Err x) → ⊥
at_refused h t = t.answer.1 h.more h.byte

pub stays_on : {c d e : Cursor} → Stays c d → Stays d e → Stays c e
stays_on a b = record { text = b.text ∙ a.text; line = b.line ∙ a.line }

-- what is read from the cursor d on, said of the cursor before it
pub reads_at : {W : Type 0} (H : W → Type 0) (g : W → List ℕ) {c d : Cursor} (w : W) (end : ℕ) → Stays c d → Reads H g d.text.now d.at w end → Reads H g c.text.now d.at w end
reads_at H g {c} {d} w end s r = subst (λ t. Reads H g t d.at w end) s.text r

pub refused_at : {W : Type 0} (H : W → Type 0) (g : W → List ℕ) {c d : Cursor} (x : Refusal) → Stays c d → Refused H g d.text.now d.at d.line x → Refused H g c.text.now d.at c.line x
refused_at H g {c} {d} x s r = subst (λ n. Refused H g c.text.now d.at n x) s.line (subst (λ t. Refused H g t d.at d.line x) s.text r)

module _ {V W R S T : Type 0} (G : V → Type 0) (f : V → List ℕ) (H : W → Type 0) (g : W → List ℕ) {of : R → V} {of' : S → W} {c d e : Cursor} where
  pub both_taken : {r : R} {s : S} {t : T} (to : T → V × W) → Takes G f of c d (Ok r) → Takes H g of' d e (Ok s) → to t ≡ (of r, of' s) → Takes (Both G H) (joint f g) to c e (Ok t)
  both_taken {r} {s} {t} to a b q = record {
    stays = stays_on a.stays b.stays;
    answer = subst (λ z. Reads (Both G H) (joint f g) c.text.now c.at z e.at) (sym q)
        (reads_both G f H g c.text.now c.at d.at e.at (of r) (of' s) a.answer (reads_at H g (of' s) e.at a.stays b.answer));
  }

  pub second_stuck : {r : R} {x : Refusal} (to : T → V × W) → Front G f → Takes G f of c d (Ok r) → Takes {R = S} H g of' d e (Err x) → Takes (Both G H) (joint f g) to c e (Err x)
  second_stuck {r} {x} to fr a b = record {
    stays = stays_on a.stays b.stays;
    answer = refused_second G f H g c.text.now c.at d.at c.line x (of r) fr a.answer (refused_at H g x a.stays b.answer);
  }

pub first_stuck : {V W R T : Type 0} (G : V → Type 0) (f : V → List ℕ) (H : W → Type 0) (g : W → List ℕ) {of : R → V} {c d : Cursor} {x : Refusal} (to : T → V × W) (w : W) → H w → Takes G f of c d (Err x) → Takes (Both G H) (joint f g) to c d (Err x)
first_stuck G f H g {of} {c} {d} {x} to w h a = record { stays = a.stays; answer = refused_first G f H g c.text.now c.at c.line x w h a.answer }

-- a refusal that `?` passes on
pub passed_on : {V R : Type 0} {G : V → Type 0} {f : V → List ℕ} {of : R → V} {c d : Cursor} {r : Result R Refusal} {x : Refusal} → IsErrAnd r (λ y. y ≡ x) → Takes G f of c d (Err x) → Takes G f of c d r
passed_on {r = r} h t = let p = err_from_is_err_and r h in rw (p.1, p.2) t

-- the same refusal, in other words
pub stuck_same : {V W R S : Type 0} (G : V → Type 0) (f : V → List ℕ) (H : W → Type 0) (g : W → List ℕ) {of : R → V} (of' : S → W) {c d : Cursor} {x : Refusal} → ((v : V) → G v → (w : W) × H w × (g w ≡ f v)) → ((w : W) → H w → (v : V) × G v × (g w ≡ f v))
    → Takes G f of c d (Err x) → Takes H g of' c d (Err x)
stuck_same G f H g of' {c} {d} {x} into back a = record { stays = a.stays; answer = refused_same G f H g c.text.now c.at c.line x into back a.answer }

-- a byte with which nothing goes on, or none
pub no_byte : {V : Type 0} (G : V → Type 0) (f : V → List ℕ) (P : ℕ → Type 0) (t : List ℕ) (from : ℕ) (v : V) (z : Bool) → ltb from (length t) ≡ z → G v → First G f P → (from < length t → P (get_or t from 0) → ⊥) → Breaks G f (drop from t) 0
no_byte G f P t from v true z gv first h = let l = ltb-true from (length t) z in wrong_there G f P t from v gv first l (h l)
no_byte G f P t from v false z gv first h = nothing_there G f P t from v gv first (ltb-false from (length t) z)

-- forms of one byte

module _ {V R : Type 0} (G : V → Type 0) (f : V → List ℕ) (of : R → V) (P : ℕ → Type 0) where
  -- the value that a byte makes, and that none does
  abbrev pub Makes : ℕ → Option R → Type 0
  Makes b (Some r) = G (of r) × (f (of r) ≡ b ∷ [])
  Makes b None = P b → ⊥

  by_byte : (c d : Cursor) (v : V) (r : Result R Refusal) → Stays c d → G v → First G f P → OnByte Makes c d r → Takes G f of c d r
  by_byte c d v (Ok x) s gv first a = record {
    stays = s;
    answer = subst (Reads G f c.text.now c.at (of x)) (sym a.2) (reads_byte G f c.text.now c.at (of x) (get_or c.text.now c.at 0) a.0 a.1.0 refl a.1.1);
  }
  by_byte c d v (Err x) s gv first a = record {
    stays = s;
    answer = refused_here G f c.text.now c.at c.line x a.0 (no_byte G f P c.text.now c.at v (ltb c.at (length c.text.now)) refl gv first a.1);
  }

  pub one_taken : (v : V) → G v → First G f P → {post : ℕ → Option R → Type 0} {c d : Cursor} {r : Result R Refusal} → TakesOne post c d r → ((o : Option R) → c.at < length c.text.now → post (get_or c.text.now c.at 0) o → Makes (get_or c.text.now c.at 0) o) → Takes G f of c d r
  one_taken v gv first {post} {c} {d} {r} t to = by_byte c d v r t.stays gv first (on_byte post Makes c d r to t.answer)

-- a byte with which alone a form begins
pub byte_missing : {V R : Type 0} (G : V → Type 0) (f : V → List ℕ) (of : R → V) (b : ℕ) (v : V) → G v → First G f (λ x. x ≡ b) → {c d : Cursor} {x : Refusal} → TakesOne (Exactly b) c d (Err x) → Takes G f of c d (Err x)
byte_missing G f of b v gv first {c} {d} {x} t = record {
  stays = t.stays;
  answer = refused_here G f c.text.now c.at c.line x t.answer.0 (no_byte G f (λ x. x ≡ b) c.text.now c.at v (ltb c.at (length c.text.now)) refl gv first t.answer.1);
}

-- the same value, answered otherwise
pub taken_as : {V R S : Type 0} (G : V → Type 0) (f : V → List ℕ) {of : R → V} {c d : Cursor} {r : R} (of' : S → V) (s : S) → of' s ≡ of r → Takes G f of c d (Ok r) → Takes G f of' c d (Ok s)
taken_as G f {of} {c} {d} {r} of' s q a = record { stays = a.stays; answer = subst (λ z. Reads G f c.text.now c.at z d.at) (sym q) a.answer }

pub stuck_as : {V R S : Type 0} (G : V → Type 0) (f : V → List ℕ) {of : R → V} {c d : Cursor} {x : Refusal} (of' : S → V) → Takes G f of c d (Err x) → Takes G f of' c d (Err x)
stuck_as G f of' a = record { stays = a.stays; answer = a.answer }

byte_begins : {b : ℕ} {c d : Cursor} {u : Unit {0}} → TakesOne (Exactly b) c d (Ok u) → drop c.at c.text.now ≡ b ∷ drop d.at c.text.now
byte_begins {b} {c} {d} t = at_drop_more (λ z. z) c.text.now c.at 0 t.answer.0 ∙ ap (λ x. x ∷ drop (c.at + 1) c.text.now) t.answer.1 ∙ ap (λ i. b ∷ drop i c.text.now) (sym t.answer.2)

-- this byte, and a form behind it
module _ {V W R : Type 0} (G : V → Type 0) (f : V → List ℕ) (H : W → Type 0) (g : W → List ℕ) (b : ℕ) (of : R → V) (of' : R → W) {c d e : Cursor} {u : Unit {0}}
    (into : (v : V) → G v → (w : W) × H w × (g w ≡ b ∷ f v)) (back : (w : W) (x y : List ℕ) → H w → g w ++ x ≡ b ∷ y → (v : V) × G v × (g w ≡ b ∷ f v)) (tie : (r : R) → G (of r) → H (of' r) × (g (of' r) ≡ b ∷ f (of r))) where
  pub behind_byte : (r : Result R Refusal) → TakesOne (Exactly b) c d (Ok u) → Takes G f of d e r → Takes H g of' c e r
  behind_byte (Ok r) t a =
      let ra = reads_at G f (of r) e.at t.stays a.answer in
      let h = tie r ra.good in
      record {
        stays = stays_on t.stays a.stays;
        answer = reads H g c.text.now c.at (of' r) e.at c.within ra.within h.0 (byte_begins t ∙ ap (λ z. b ∷ z) ra.here ∙ sym (ap (λ z. z ++ drop e.at c.text.now) h.1));
      }
  behind_byte (Err x) t a =
      let ra = refused_at G f x t.stays a.answer in
      record {
        stays = stays_on t.stays a.stays;
        answer = record {
          k = ra.k + 1;
          is = at_place c.line x ra.is (omega (arith, t.answer.2));
          breaks = subst (λ z. Breaks H g z (ra.k + 1)) (sym (byte_begins t)) (byte_front G f H g b (drop d.at c.text.now) ra.k into back ra.breaks);
        };
      }
