-- The bytes of a name, and names.
use Rattle.std.proofs.Common.{◌≡◌, ℕ, ◌<◌, ◌≤◌, ◌⊎◌, Bool, true, false, cond, eqb, List, [], ◌∷◌, ◌++◌, sym, refl, ap, ◌∙◌, inl, inr, ⊎_elim, arith}
use borrow.Author.Tests.{eqb-false}
use Rattle.fleet_list.specs.Forms.{Front}
use Rattle.fleet_list.specs.Parts.{Letter}
use Rattle.fleet_list.specs.Texts.{escaped, quoted}
use Rattle.fleet_list.proofs.Seq.{First}
use Rattle.fleet_list.proofs.Series.{Many, Apart, front_many}

-- behind a backslash, or by itself
abbrev pub Hidden : ℕ → Type 0
Hidden b = Letter b × (escaped b ≡ 92 ∷ b ∷ [])

abbrev pub only : ℕ → List ℕ
only b = b ∷ []

abbrev pub Bare : ℕ → Type 0
Bare b = (escaped b ≡ b ∷ []) × (b ≡ 34 → ⊥) × (b ≡ 92 → ⊥)

abbrev Shape : ℕ → List ℕ → Type 0
Shape b t = (t ≡ 92 ∷ b ∷ []) ⊎ ((t ≡ b ∷ []) × (b ≡ 34 → ⊥) × (b ≡ 92 → ⊥))

shape_by : (b : ℕ) (p q : Bool) → eqb b 34 ≡ p → eqb b 92 ≡ q → Shape b (cond p (92 ∷ b ∷ []) (cond q (92 ∷ b ∷ []) (b ∷ [])))
shape_by b true q e f = inl refl
shape_by b false true e f = inl refl
shape_by b false false e f = inr (refl, eqb-false b 34 e, eqb-false b 92 f)

pub shape : (b : ℕ) → (escaped b ≡ 92 ∷ b ∷ []) ⊎ Bare b
shape b = shape_by b (eqb b 34) (eqb b 92) refl refl

abbrev pub Starts : ℕ → Type 0
Starts b = (b ≡ 92) ⊎ (Letter b × (escaped b ≡ b ∷ []))

pub first_letter : First Letter escaped Starts
first_letter v g = ⊎_elim (λ h. (92, v ∷ [], inl refl, h)) (λ h. (v, [], inr (g, h.0), h.0)) (shape v)

same_letter : (v v' : ℕ) (w w' : List ℕ) → (escaped v ≡ 92 ∷ v ∷ []) ⊎ Bare v → (escaped v' ≡ 92 ∷ v' ∷ []) ⊎ Bare v' → escaped v ++ w ≡ escaped v' ++ w' → (v ≡ v') × (w ≡ w')
same_letter v v' w w' (inl h) (inl k) e =
    let q : 92 ∷ v ∷ w ≡ 92 ∷ v' ∷ w' = sym (ap (λ z. z ++ w) h) ∙ e ∙ ap (λ z. z ++ w') k in
    (cc, cc)
same_letter v v' w w' (inl h) (inr k) e =
    let q : 92 ∷ v ∷ w ≡ v' ∷ w' = sym (ap (λ z. z ++ w) h) ∙ e ∙ ap (λ z. z ++ w') k.0 in
    let r : v' ≡ 92 = cc in
    absurd (k.2 r)
same_letter v v' w w' (inr h) (inl k) e =
    let q : v ∷ w ≡ 92 ∷ v' ∷ w' = sym (ap (λ z. z ++ w) h.0) ∙ e ∙ ap (λ z. z ++ w') k in
    let r : v ≡ 92 = cc in
    absurd (h.2 r)
same_letter v v' w w' (inr h) (inr k) e =
    let q : v ∷ w ≡ v' ∷ w' = sym (ap (λ z. z ++ w) h.0) ∙ e ∙ ap (λ z. z ++ w') k.0 in
    (cc, cc)

pub front_letter : Front Letter escaped
front_letter v v' w w' g g' e = same_letter v v' w w' (shape v) (shape v') e

apart_by : (v : ℕ) (w y : List ℕ) → (escaped v ≡ 92 ∷ v ∷ []) ⊎ Bare v → escaped v ++ w ≡ 34 ∷ y → ⊥
apart_by v w y (inl h) e =
    let q : 92 ∷ v ∷ w ≡ 34 ∷ y = sym (ap (λ z. z ++ w) h) ∙ e in
    let r : ◌≡◌ {A = ℕ} 92 34 = cc in
    omega arith
apart_by v w y (inr h) e =
    let q : v ∷ w ≡ 34 ∷ y = sym (ap (λ z. z ++ w) h.0) ∙ e in
    let r : v ≡ 34 = cc in
    h.1 r

pub apart_letter : Apart Letter escaped 34
apart_letter v w y g e = apart_by v w y (shape v) e

hidden_by : (v : ℕ) (x y : List ℕ) → Letter v → (escaped v ≡ 92 ∷ v ∷ []) ⊎ Bare v → escaped v ++ x ≡ 92 ∷ y → Hidden v
hidden_by v x y g (inl h) e = (g, h)
hidden_by v x y g (inr h) e =
    let q : v ∷ x ≡ 92 ∷ y = sym (ap (λ z. z ++ x) h.0) ∙ e in
    let r : v ≡ 92 = cc in
    absurd (h.2 r)

-- a backslash, and a byte that stands behind one
pub show : (v : ℕ) → Hidden v → (w : ℕ) × Letter w × (escaped w ≡ 92 ∷ only v)
show v g = (v, g.0, g.1)

pub hide : (w : ℕ) (x y : List ℕ) → Letter w → escaped w ++ x ≡ 92 ∷ y → (v : ℕ) × Hidden v × (escaped w ≡ 92 ∷ only v)
hide w x y g e = let h = hidden_by w x y g (shape w) e in (w, h, h.1)

pub first_hidden : First Hidden only Hidden
first_hidden v g = (v, [], g, refl)

-- as many bytes as a name may have
abbrev pub Sized : ℕ → Type 0
Sized n = (0 < n) × (n ≤ 15)

abbrev pub Good : List ℕ → Type 0
Good = Many Letter escaped 34 Sized

pub front_name : Front Good quoted
front_name v v' w w' g g' e = front_many Letter escaped 34 front_letter apart_letter Sized v v' w w' g g' (cc e)
