-- One part of a text behind another: where the whole breaks.
use Rattle.std.proofs.Common.{◌≡◌, ℕ, suc, ◌+◌, ◌<◌, ◌≤◌, ◌⊎◌, List, [], ◌∷◌, ◌++◌, length, get_or, take, drop, sym, refl, ap, ◌∙◌, subst, inl, inr, ⊎_elim, append_assoc, append-nil, zero-add, arith, length-append, length-drop, take-append-drop}
use Rattle.std.proofs.lemmas.List.{at_drop_more, drop_all}
use Rattle.train.specs.declared.refusal.Refusal.{Refusal}
use Rattle.fleet_list.specs.Forms.{Breaks, fault, Front, Both, joint, Reads, Refused}

-- of two fronts of one text, one begins with the other
fronts : (a b c d : List ℕ) → a ++ b ≡ c ++ d → ((m : List ℕ) × (a ≡ c ++ m)) ⊎ ((m : List ℕ) × (c ≡ a ++ m))
fronts [] b c d e = inr (c, refl)
fronts (x ∷ a) b [] d e = inl (x ∷ a, refl)
fronts (x ∷ a) b (y ∷ c) d e =
    let xy : x ≡ y = cc in
    let r : a ++ b ≡ c ++ d = cc in
    ⊎_elim (λ h. inl (h.0, ap (λ z. z ∷ a) xy ∙ ap (λ z. y ∷ z) h.1)) (λ h. inr (h.0, ap (λ z. z ∷ c) (sym xy) ∙ ap (λ z. x ∷ z) h.1)) (fronts a b c d r)

take_past : (x u : List ℕ) (j : ℕ) → take (length x + j) (x ++ u) ≡ x ++ take j u
take_past [] u j = ap (λ i. take i u) (zero-add j)
take_past (y ∷ x) u j =
    let e : length (y ∷ x) + j ≡ suc (length x + j) = omega arith in
    ap (λ i. take i (y ∷ x ++ u)) e ∙ ap (λ z. y ∷ z) (take_past x u j)

pub in_first : {V W : Type 0} (G : V → Type 0) (f : V → List ℕ) (H : W → Type 0) (g : W → List ℕ) (t : List ℕ) (k : ℕ) (x : W) → H x → Breaks G f t k → Breaks (Both G H) (joint f g) t k
in_first G f H g t k x hx b = record {
  within = b.within;
  before = record { value = (b.before.value, x); rest = b.before.rest ++ g x; good = (b.before.good, hx); begins = ap (λ z. z ++ g x) b.before.begins ∙ append_assoc (take k t) b.before.rest (g x) };
  here = λ l v.
      ⊎_elim
      (λ h. b.here l (record { value = v.value.0; rest = h.0; good = v.good.0; begins = h.1 }))
      (λ h. b.none v.value.0 (h.0 ++ drop (k + 1) t) v.good.0 (sym (take-append-drop (k + 1) t) ∙ ap (λ z. z ++ drop (k + 1) t) h.1 ∙ append_assoc (f v.value.0) h.0 (drop (k + 1) t)))
      (fronts (f v.value.0) (g v.value.1) (take (k + 1) t) v.rest v.begins);
  none = λ v w gd e. b.none v.0 (g v.1 ++ w) gd.0 (e ∙ append_assoc (f v.0) (g v.1) w);
}

pub behind : {V W : Type 0} (G : V → Type 0) (f : V → List ℕ) (H : W → Type 0) (g : W → List ℕ) (u : List ℕ) (k : ℕ) (v : V) → Front G f → G v → Breaks H g u k → Breaks (Both G H) (joint f g) (f v ++ u) (length (f v) + k)
behind G f H g u k v fr gv b = record {
  within = omega (arith, length-append (f v) u, b.within);
  before = record {
    value = (v, b.before.value);
    rest = b.before.rest;
    good = (gv, b.before.good);
    begins = ap (λ z. f v ++ z) b.before.begins ∙ sym (append_assoc (f v) (take k u) b.before.rest) ∙ ap (λ z. z ++ b.before.rest) (sym (take_past (f v) u k));
  };
  here = λ l x.
      let j : length (f v) + k + 1 ≡ length (f v) + (k + 1) = omega arith in
      let e = x.begins ∙ ap (λ z. z ++ x.rest) (ap (λ i. take i (f v ++ u)) j ∙ take_past (f v) u (k + 1)) ∙ append_assoc (f v) (take (k + 1) u) x.rest in
      b.here (omega (arith, length-append (f v) u)) (record { value = x.value.1; rest = x.rest; good = x.good.1; begins = (fr x.value.0 v (g x.value.1) (take (k + 1) u ++ x.rest) x.good.0 gv e).1 });
  none = λ x w gd e. b.none x.1 w gd.1 (fr v x.0 u (g x.1 ++ w) gv gd.0 (e ∙ append_assoc (f x.0) (g x.1) w)).1;
}

pub in_second : {V W : Type 0} (G : V → Type 0) (f : V → List ℕ) (H : W → Type 0) (g : W → List ℕ) (t u : List ℕ) (k : ℕ) (v : V) → Front G f → G v → t ≡ f v ++ u → Breaks H g u k → Breaks (Both G H) (joint f g) t (length (f v) + k)
in_second G f H g t u k v fr gv e b = subst (λ t. Breaks (Both G H) (joint f g) t (length (f v) + k)) (sym e) (behind G f H g u k v fr gv b)

-- a byte in front of a text that breaks, and other values for what is printed
pub byte_front : {V W : Type 0} (G : V → Type 0) (f : V → List ℕ) (H : W → Type 0) (g : W → List ℕ) (b : ℕ) (t : List ℕ) (k : ℕ) → ((v : V) → G v → (w : W) × H w × (g w ≡ b ∷ f v)) → ((w : W) (x y : List ℕ) → H w → g w ++ x ≡ b ∷ y → (v : V) × G v × (g w ≡ b ∷ f v)) → Breaks G f t k → Breaks H g (b ∷ t) (k + 1)
byte_front G f H g b t k into back r =
    let s : k + 1 ≡ suc k = omega arith in
    let s2 : k + 1 + 1 ≡ suc (k + 1) = omega arith in
    let v0 = into r.before.value r.before.good in
    record {
      within = omega (arith, r.within);
      before = record { value = v0.0; rest = r.before.rest; good = v0.1; begins = v0.2 ∙ ap (λ z. b ∷ z) r.before.begins ∙ sym (ap (λ i. take i (b ∷ t) ++ r.before.rest) s) };
      here = λ l x.
          let e : g x.value ≡ b ∷ (take (k + 1) t ++ x.rest) = x.begins ∙ ap (λ i. take i (b ∷ t) ++ x.rest) s2 in
          let w = back x.value [] (take (k + 1) t ++ x.rest) x.good (append-nil (g x.value) ∙ e) in
          let e' : b ∷ f w.0 ≡ b ∷ (take (k + 1) t ++ x.rest) = sym w.2 ∙ e in
          r.here (omega arith) (record { value = w.0; rest = x.rest; good = w.1; begins = cc });
      none = λ x u gd e.
          let w = back x u t gd (sym e) in
          let e' : b ∷ t ≡ b ∷ (f w.0 ++ u) = e ∙ ap (λ z. z ++ u) w.2 in
          r.none w.0 u w.1 cc;
    }

-- the first byte of what is printed
abbrev pub First : {V : Type 0} → (V → Type 0) → (V → List ℕ) → (ℕ → Type 0) → Type 0
First {V} Good print P = (v : V) → Good v → (b : ℕ) × (y : List ℕ) × P b × (print v ≡ b ∷ y)

pub nothing_there : {V : Type 0} (G : V → Type 0) (f : V → List ℕ) (P : ℕ → Type 0) (t : List ℕ) (from : ℕ) (v : V) → G v → First G f P → length t ≤ from → Breaks G f (drop from t) 0
nothing_there G f P t from v gv first l =
    subst (λ z. Breaks G f z 0) (sym (drop_all from t l)) (record {
      within = omega arith;
      before = record { value = v; rest = f v; good = gv; begins = refl };
      here = λ l. absurd (omega arith);
      none = λ x u gd e.
          let h = first x gd in
          let e' : [] ≡ h.0 ∷ (h.1 ++ u) = e ∙ ap (λ z. z ++ u) h.3 in
          let z : ◌≡◌ {A = ℕ} 0 1 = cc in
          omega arith;
    })

pub wrong_first : {V : Type 0} (G : V → Type 0) (f : V → List ℕ) (P : ℕ → Type 0) (b : ℕ) (t : List ℕ) (v : V) → G v → First G f P → (P b → ⊥) → Breaks G f (b ∷ t) 0
wrong_first G f P b t v gv first np = record {
  within = omega arith;
  before = record { value = v; rest = f v; good = gv; begins = refl };
  here = λ l x.
      let h = first x.value x.good in
      let e : h.0 ∷ h.1 ≡ b ∷ (take 0 t ++ x.rest) = sym h.3 ∙ x.begins in
      let eb : h.0 ≡ b = cc in
      np (subst P eb h.2);
  none = λ x u gd e.
      let h = first x gd in
      let e' : b ∷ t ≡ h.0 ∷ (h.1 ++ u) = e ∙ ap (λ z. z ++ u) h.3 in
      let eb : h.0 ≡ b = cc in
      np (subst P eb h.2);
}

pub wrong_there : {V : Type 0} (G : V → Type 0) (f : V → List ℕ) (P : ℕ → Type 0) (t : List ℕ) (from : ℕ) (v : V) → G v → First G f P → from < length t → (P (get_or t from 0) → ⊥) → Breaks G f (drop from t) 0
wrong_there G f P t from v gv first l np = subst (λ z. Breaks G f z 0) (sym (at_drop_more (λ z. z) t from 0 l)) (wrong_first G f P (get_or t from 0) (drop (from + 1) t) v gv first np)

-- readers one behind another

pub at_place : (line : ℕ) (x : Refusal) {m n : ℕ} → x ≡ fault line m → m ≡ n → x ≡ fault line n
at_place line x h e = h ∙ ap (fault line) e

pub reads_both : {V W : Type 0} (G : V → Type 0) (f : V → List ℕ) (H : W → Type 0) (g : W → List ℕ) (t : List ℕ) (from mid end : ℕ) (v : V) (w : W) → Reads G f t from v mid → Reads H g t mid w end → Reads (Both G H) (joint f g) t from (v, w) end
reads_both G f H g t from mid end v w a b = record {
  good = (a.good, b.good);
  here = a.here ∙ ap (λ z. f v ++ z) b.here ∙ sym (append_assoc (f v) (g w) (drop end t));
  long = omega (arith, a.long, b.long, length-append (f v) (g w));
  within = b.within;
}

pub refused_first : {V W : Type 0} (G : V → Type 0) (f : V → List ℕ) (H : W → Type 0) (g : W → List ℕ) (t : List ℕ) (from line : ℕ) (x : Refusal) (w : W) → H w → Refused G f t from line x → Refused (Both G H) (joint f g) t from line x
refused_first G f H g t from line x w hw r = record { k = r.k; is = r.is; breaks = in_first G f H g (drop from t) r.k w hw r.breaks }

pub refused_second : {V W : Type 0} (G : V → Type 0) (f : V → List ℕ) (H : W → Type 0) (g : W → List ℕ) (t : List ℕ) (from mid line : ℕ) (x : Refusal) (v : V) → Front G f → Reads G f t from v mid → Refused H g t mid line x → Refused (Both G H) (joint f g) t from line x
refused_second G f H g t from mid line x v fr a r = record {
  k = length (f v) + r.k;
  is = at_place line x r.is (omega (arith, a.long));
  breaks = in_second G f H g (drop from t) (drop mid t) r.k v fr a.good a.here r.breaks;
}

pub front_both : {V W : Type 0} (G : V → Type 0) (f : V → List ℕ) (H : W → Type 0) (g : W → List ℕ) → Front G f → Front H g → Front (Both G H) (joint f g)
front_both G f H g a b x y u w gx gy e =
    let p = a x.0 y.0 (g x.1 ++ u) (g y.1 ++ w) gx.0 gy.0 (sym (append_assoc (f x.0) (g x.1) u) ∙ e ∙ append_assoc (f y.0) (g y.1) w) in
    let q = b x.1 y.1 u w gx.1 gy.1 p.1 in
    (ap (λ z. (z, x.1)) p.0 ∙ ap (λ z. (y.0, z)) q.0, q.1)

-- the place past what is read follows from the text left
pub reads : {V : Type 0} (G : V → Type 0) (f : V → List ℕ) (t : List ℕ) (from : ℕ) (v : V) (end : ℕ) → from ≤ length t → end ≤ length t → G v → drop from t ≡ f v ++ drop end t → Reads G f t from v end
reads G f t from v end l m g e =
    record { good = g; here = e; long = omega (arith, ap length e, length-drop from t, length-append (f v) (drop end t), length-drop end t); within = m }

-- one byte that is all that is printed
pub reads_byte : {V : Type 0} (G : V → Type 0) (f : V → List ℕ) (t : List ℕ) (from : ℕ) (v : V) (b : ℕ) → from < length t → G v → get_or t from 0 ≡ b → f v ≡ b ∷ [] → Reads G f t from v (from + 1)
reads_byte G f t from v b l g e p = reads G f t from v (from + 1) (omega arith) (omega arith) g (at_drop_more (λ z. z) t from 0 l ∙ ap (λ x. x ∷ drop (from + 1) t) e ∙ sym (ap (λ z. z ++ drop (from + 1) t) p))

pub refused_here : {V : Type 0} (G : V → Type 0) (f : V → List ℕ) (t : List ℕ) (from line : ℕ) (x : Refusal) → x ≡ fault line (from + 1) → Breaks G f (drop from t) 0 → Refused G f t from line x
refused_here G f t from line x h b = record { k = 0; is = at_place line x h (omega arith); breaks = b }

-- the text has p from place `from` on, and goes on at place `at`
pub record Begun (t : List ℕ) (from : ℕ) (p : List ℕ) (at : ℕ) : Type 0 where
  pub here : drop from t ≡ p ++ drop at t
  pub long : at ≡ from + length p
  pub within : at ≤ length t

pub begun_none : (t : List ℕ) (from : ℕ) → from ≤ length t → Begun t from [] from
begun_none t from l = record { here = refl; long = omega arith; within = l }

pub begun_more : (t : List ℕ) (from : ℕ) (p : List ℕ) (at : ℕ) (q : List ℕ) (end : ℕ) → Begun t from p at → Begun t at q end → Begun t from (p ++ q) end
begun_more t from p at q end a b = record { here = a.here ∙ ap (λ z. p ++ z) b.here ∙ sym (append_assoc p q (drop end t)); long = omega (arith, a.long, b.long, length-append p q); within = b.within }

pub begun_byte : (t : List ℕ) (at b : ℕ) → at < length t → get_or t at 0 ≡ b → Begun t at (b ∷ []) (at + 1)
begun_byte t at b l e = record { here = at_drop_more (λ z. z) t at 0 l ∙ ap (λ x. x ∷ drop (at + 1) t) e; long = omega arith; within = omega arith }

pub begun_read : {V : Type 0} (G : V → Type 0) (f : V → List ℕ) (t : List ℕ) (from : ℕ) (v : V) (end : ℕ) → Reads G f t from v end → Begun t from (f v) end
begun_read G f t from v end r = record { here = r.here; long = r.long; within = r.within }

-- a break behind what is begun
pub refused_behind : {V W : Type 0} (G : V → Type 0) (f : V → List ℕ) (H : W → Type 0) (g : W → List ℕ) (t : List ℕ) (from line : ℕ) (p : List ℕ) (at : ℕ) (x : Refusal) → Begun t from p at → Refused G f t at line x → ((u : List ℕ) (k : ℕ) → Breaks G f u k → Breaks H g (p ++ u) (length p + k)) → Refused H g t from line x
refused_behind G f H g t from line p at x b r past = record {
  k = length p + r.k;
  is = at_place line x r.is (omega (arith, b.long));
  breaks = subst (λ z. Breaks H g z (length p + r.k)) (sym b.here) (past (drop at t) r.k r.breaks);
}

pub reads_begun : {V : Type 0} (G : V → Type 0) (f : V → List ℕ) (t : List ℕ) (from : ℕ) (v : V) (end : ℕ) → G v → Begun t from (f v) end → Reads G f t from v end
reads_begun G f t from v end g b = record { good = g; here = b.here; long = b.long; within = b.within }

-- other values for what is printed
pub same_breaks : {V W : Type 0} (G : V → Type 0) (f : V → List ℕ) (H : W → Type 0) (g : W → List ℕ) (t : List ℕ) (k : ℕ) → ((v : V) → G v → (w : W) × H w × (g w ≡ f v)) → ((w : W) → H w → (v : V) × G v × (g w ≡ f v)) → Breaks G f t k → Breaks H g t k
same_breaks G f H g t k into back r =
    let v0 = into r.before.value r.before.good in
    record {
      within = r.within;
      before = record { value = v0.0; rest = r.before.rest; good = v0.1; begins = v0.2 ∙ r.before.begins };
      here = λ l x. let w = back x.value x.good in r.here l (record { value = w.0; rest = x.rest; good = w.1; begins = sym w.2 ∙ x.begins });
      none = λ x u gd e. let w = back x gd in r.none w.0 u w.1 (e ∙ ap (λ z. z ++ u) w.2);
    }

pub refused_same : {V W : Type 0} (G : V → Type 0) (f : V → List ℕ) (H : W → Type 0) (g : W → List ℕ) (t : List ℕ) (from line : ℕ) (x : Refusal) → ((v : V) → G v → (w : W) × H w × (g w ≡ f v)) → ((w : W) → H w → (v : V) × G v × (g w ≡ f v)) → Refused G f t from line x → Refused H g t from line x
refused_same G f H g t from line x into back r = record { k = r.k; is = r.is; breaks = same_breaks G f H g (drop from t) r.k into back r.breaks }

-- the same place, in a larger form
pub refused_with : {V W : Type 0} (G : V → Type 0) (f : V → List ℕ) (H : W → Type 0) (g : W → List ℕ) (t : List ℕ) (from line : ℕ) (x : Refusal) → ((u : List ℕ) (k : ℕ) → Breaks G f u k → Breaks H g u k) → Refused G f t from line x → Refused H g t from line x
refused_with G f H g t from line x up r = record { k = r.k; is = r.is; breaks = up (drop from t) r.k r.breaks }
