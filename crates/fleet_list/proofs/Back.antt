-- A text is the text of one list at most, or breaks at one place.
use Rattle.std.proofs.Common.{◌≡◌, ℕ, ◌+◌, ◌<◌, ◌≤◌, Bool, true, false, ltb, List, [], ◌∷◌, ◌++◌, length, take, drop, sym, refl, ap, ◌∙◌, subst, append_assoc, append-nil, arith, length-append, take-append-drop, take-take, ltb-false, ltb-true}
use Rattle.std.specs.List.{AllByRecursion}
use Rattle.train.specs.declared.refusal.Refusal.{Refusal}
use Rattle.fleet.specs.Books.{Item}
use Rattle.fleet_list.specs.Forms.{Viable, Breaks, fault}
use Rattle.fleet_list.specs.Lists.{IsLine, line_text, list_text}
use Rattle.fleet_list.specs.Readings.{Broken}
use Rattle.fleet_list.proofs.Four.{front_line}
use Rattle.fleet_list.proofs.Rows.{line_long}

-- no text begins so and with a line
abbrev NoLine : List ℕ → Type 0
NoLine u = (v : Item) (w : List ℕ) → IsLine v → u ≡ line_text v ++ w → ⊥

nothing : NoLine []
nothing v w g e = omega (arith, ap length e, length-append (line_text v) w, line_long v)

-- whole lines, and then what no line begins
meet : (es ds : List Item) (u w : List ℕ) → AllByRecursion IsLine es → AllByRecursion IsLine ds → NoLine u → NoLine w → list_text es ++ u ≡ list_text ds ++ w → (es ≡ ds) × (u ≡ w)
meet [] [] u w g h nu nw e = (refl, e)
meet [] (y ∷ ds) u w g h nu nw e = absurd (nu y (list_text ds ++ w) h.0 (e ∙ append_assoc (line_text y) (list_text ds) w))
meet (x ∷ es) [] u w g h nu nw e = absurd (nw x (list_text es ++ u) g.0 (sym e ∙ append_assoc (line_text x) (list_text es) u))
meet (x ∷ es) (y ∷ ds) u w g h nu nw e =
    let p = front_line x y (list_text es ++ u) (list_text ds ++ w) g.0 h.0 (sym (append_assoc (line_text x) (list_text es) u) ∙ e ∙ append_assoc (line_text y) (list_text ds) w) in
    let q = meet es ds u w g.1 h.1 nu nw p.1 in
    (ap (λ z. z ∷ es) p.0 ∙ ap (λ z. y ∷ z) q.0, q.1)

pub apart : (es ds : List Item) → AllByRecursion IsLine es → AllByRecursion IsLine ds → list_text es ≡ list_text ds → es ≡ ds
apart es ds g h e = (meet es ds [] [] g h nothing nothing (append-nil (list_text es) ∙ e ∙ sym (append-nil (list_text ds)))).0

pub broken_no_list : (t : List ℕ) (f : Refusal) → Broken t f → (es : List Item) → AllByRecursion IsLine es → t ≡ list_text es → ⊥
broken_no_list t f b es g e =
    let p = meet b.whole es b.rest [] b.good g b.breaks.none nothing (sym b.here ∙ e ∙ sym (append-nil (list_text es))) in
    omega (arith, b.some, ap length p.1)

-- what begins so begins also with less
shorter : {V : Type 0} (G : V → Type 0) (f : V → List ℕ) (t : List ℕ) (i j : ℕ) → i ≤ j → Viable G f (take j t) → Viable G f (take i t)
shorter G f t i j l v = record {
  value = v.value;
  rest = drop i (take j t) ++ v.rest;
  good = v.good;
  begins = v.begins ∙ ap (λ z. z ++ v.rest) (sym (take-append-drop i (take j t)) ∙ ap (λ z. z ++ drop i (take j t)) (take-take i j t l)) ∙ append_assoc (take i t) (drop i (take j t)) v.rest;
}

not_below : {V : Type 0} (G : V → Type 0) (f : V → List ℕ) (t : List ℕ) (k l : ℕ) → Breaks G f t k → Breaks G f t l → k < l → ⊥
not_below G f t k l a b h = a.here (omega (arith, b.within)) (shorter G f t (k + 1) l (omega arith) b.before)

once_by : {V : Type 0} (G : V → Type 0) (f : V → List ℕ) (t : List ℕ) (k l : ℕ) (x y : Bool) → ltb k l ≡ x → ltb l k ≡ y → Breaks G f t k → Breaks G f t l → k ≡ l
once_by G f t k l true y p q a b = absurd (not_below G f t k l a b (ltb-true k l p))
once_by G f t k l false true p q a b = absurd (not_below G f t l k b a (ltb-true l k q))
once_by G f t k l false false p q a b = omega (arith, ltb-false k l p, ltb-false l k q)

-- a text breaks at one place only
pub once : {V : Type 0} (G : V → Type 0) (f : V → List ℕ) (t : List ℕ) (k l : ℕ) → Breaks G f t k → Breaks G f t l → k ≡ l
once G f t k l a b = once_by G f t k l (ltb k l) (ltb l k) refl refl a b

pub broken_once : (t : List ℕ) (f g : Refusal) → Broken t f → Broken t g → f ≡ g
broken_once t f g a b =
    let p = meet a.whole b.whole a.rest b.rest a.good b.good a.breaks.none b.breaks.none (sym a.here ∙ b.here) in
    let k = once IsLine line_text b.rest a.k b.k (subst (λ z. Breaks IsLine line_text z a.k) p.1 a.breaks) b.breaks in
    a.is ∙ ap (λ z. fault (length z + 1) (a.k + 1)) p.0 ∙ ap (λ z. fault (length b.whole + 1) (z + 1)) k ∙ sym b.is
