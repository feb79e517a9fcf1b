-- Values one behind another, and a byte that ends them: where such a text breaks.
use Rattle.std.proofs.Common.{◌≡◌, ℕ, suc, ◌+◌, ◌<◌, List, [], ◌∷◌, ◌++◌, length, take, sym, refl, ap, ◌∙◌, subst, append_assoc, zero-add, arith, length-append}
use Rattle.std.specs.List.{flat_map, AllByRecursion}
use Rattle.fleet_list.specs.Forms.{Breaks, Front, Both, joint}
use Rattle.fleet_list.proofs.Seq.{in_first, behind, same_breaks, First}

pub all_push : {V : Type 0} (G : V → Type 0) (vs : List V) (v : V) → AllByRecursion G vs → G v → AllByRecursion G (vs ++ v ∷ [])
all_push G [] v h g = (g, tt)
all_push G (x ∷ vs) v h g = (h.0, all_push G vs v h.1 g)

module _ {V : Type 0} (G : V → Type 0) (f : V → List ℕ) (e : ℕ) where
  -- as many of them as C allows
  abbrev pub Many : (ℕ → Type 0) → List V → Type 0
  Many C vs = C (length vs) × AllByRecursion G vs

  abbrev pub ended : List V → List ℕ
  ended vs = flat_map f vs ++ e ∷ []

  -- no value begins with the byte that ends them
  abbrev pub Apart : Type 0
  Apart = (v : V) (w y : List ℕ) → G v → f v ++ w ≡ e ∷ y → ⊥

  ended_more : (v : V) (vs : List V) → ended (v ∷ vs) ≡ f v ++ ended vs
  ended_more v vs = append_assoc (f v) (flat_map f vs) (e ∷ [])

  ended_before : (v : V) (vs : List V) (x : List ℕ) → ended (v ∷ vs) ++ x ≡ f v ++ (ended vs ++ x)
  ended_before v vs x = ap (λ z. z ++ x) (ended_more v vs) ∙ append_assoc (f v) (ended vs) x

  front_all : Front G f → Apart → (vs ws : List V) (x y : List ℕ) → AllByRecursion G vs → AllByRecursion G ws → ended vs ++ x ≡ ended ws ++ y → (vs ≡ ws) × (x ≡ y)
  front_all fr a [] [] x y g h q = (refl, cc)
  front_all fr a [] (w ∷ ws) x y g h q = absurd (a w (ended ws ++ y) x h.0 (sym (ended_before w ws y) ∙ sym q))
  front_all fr a (v ∷ vs) [] x y g h q = absurd (a v (ended vs ++ x) y g.0 (sym (ended_before v vs x) ∙ q))
  front_all fr a (v ∷ vs) (w ∷ ws) x y g h q =
      let p = fr v w (ended vs ++ x) (ended ws ++ y) g.0 h.0 (sym (ended_before v vs x) ∙ q ∙ ended_before w ws y) in
      let r = front_all fr a vs ws x y g.1 h.1 p.1 in
      (ap (λ z. z ∷ vs) p.0 ∙ ap (λ z. w ∷ z) r.0, r.1)

  pub front_many : Front G f → Apart → (C : ℕ → Type 0) → Front (Many C) ended
  front_many fr a C vs ws x y g h q = front_all fr a vs ws x y g.1 h.1 q

  pub first_end : (C : ℕ → Type 0) → ((n : ℕ) → C (suc n) → ⊥) → First (Many C) ended (λ b. b ≡ e)
  first_end C never [] g = (e, [], refl, refl)
  first_end C never (v ∷ vs) g = absurd (never (length vs) g.0)

  other_count : (C D : ℕ → Type 0) (u : List ℕ) (k : ℕ) → ((n : ℕ) → C n → D n) → ((n : ℕ) → D n → C n) → Breaks (Many C) ended u k → Breaks (Many D) ended u k
  other_count C D u k to back r = same_breaks (Many C) ended (Many D) ended u k (λ vs g. (vs, (to _ g.0, g.1), refl)) (λ vs g. (vs, (back _ g.0, g.1), refl)) r

  here_by : (C : ℕ → Type 0) (u : List ℕ) (k : ℕ) → ((y : List ℕ) → C 0 → u ≡ e ∷ y → ⊥) → Breaks (Both G (Many (λ n. C (suc n)))) (joint f ended) u k
      → k < length u → (vs : List V) (x : List ℕ) → Many C vs → ended vs ≡ take (k + 1) u ++ x → ⊥
  here_by C [] k never r l [] x g q = omega arith
  here_by C (b ∷ u) k never r l [] x g q =
      let s : k + 1 ≡ suc k = omega arith in
      let q' : e ∷ [] ≡ b ∷ (take k u ++ x) = q ∙ ap (λ i. take i (b ∷ u) ++ x) s in
      let eb : b ≡ e = cc in
      never u g.0 (ap (λ z. z ∷ u) eb)
  here_by C u k never r l (v ∷ vs) x g q = r.here l (record { value = (v, vs); rest = x; good = (g.1.0, (g.0, g.1.1)); begins = sym (ended_more v vs) ∙ q })

  none_by : (C : ℕ → Type 0) (u : List ℕ) (k : ℕ) → ((y : List ℕ) → C 0 → u ≡ e ∷ y → ⊥) → Breaks (Both G (Many (λ n. C (suc n)))) (joint f ended) u k
      → (vs : List V) (x : List ℕ) → Many C vs → u ≡ ended vs ++ x → ⊥
  none_by C u k never r [] x g q = never x g.0 q
  none_by C u k never r (v ∷ vs) x g q = r.none (v, vs) x (g.1.0, (g.0, g.1.1)) (q ∙ ap (λ z. z ++ x) (ended_more v vs))

  -- one value at least, where the byte does not end them here
  more_breaks : (C : ℕ → Type 0) (u : List ℕ) (k : ℕ) → ((y : List ℕ) → C 0 → u ≡ e ∷ y → ⊥) → Breaks (Both G (Many (λ n. C (suc n)))) (joint f ended) u k → Breaks (Many C) ended u k
  more_breaks C u k never r = record {
    within = r.within;
    before = record {
      value = r.before.value.0 ∷ r.before.value.1;
      rest = r.before.rest;
      good = (r.before.good.1.0, (r.before.good.0, r.before.good.1.1));
      begins = ended_more r.before.value.0 r.before.value.1 ∙ r.before.begins;
    };
    here = λ l x. here_by C u k never r l x.value x.rest x.good x.begins;
    none = λ vs x g q. none_by C u k never r vs x g q;
  }

  -- a break in the next value; zs may follow it
  pub item_breaks : (C : ℕ → Type 0) (u : List ℕ) (k : ℕ) (zs : List V) → C (suc (length zs)) → AllByRecursion G zs → ((y : List ℕ) → C 0 → u ≡ e ∷ y → ⊥) → Breaks G f u k → Breaks (Many C) ended u k
  item_breaks C u k zs cz gz never b = more_breaks C u k never (in_first G f (Many (λ n. C (suc n))) ended u k zs (cz, gz) b)

  -- a break behind whole values
  pub past : Front G f → Apart → (vs : List V) → AllByRecursion G vs → (C : ℕ → Type 0) (u : List ℕ) (k : ℕ) → Breaks (Many (λ n. C (length vs + n))) ended u k → Breaks (Many C) ended (flat_map f vs ++ u) (length (flat_map f vs) + k)
  past fr a [] g C u k r =
      subst (λ i. Breaks (Many C) ended u i) (sym (zero-add k))
      (other_count (λ n. C (0 + n)) C u k (λ n h. subst C (zero-add n) h) (λ n h. subst C (sym (zero-add n)) h) r)
  past fr a (v ∷ vs) g C u k r =
      let C' : ℕ → Type 0 = λ n. C (suc n) in
      let to : (n : ℕ) → C (suc (length vs) + n) → C (suc (length vs + n)) = λ n h. let q : suc (length vs) + n ≡ suc (length vs + n) = omega arith in subst C q h in
      let fro : (n : ℕ) → C (suc (length vs + n)) → C (suc (length vs) + n) = λ n h. let q : suc (length vs + n) ≡ suc (length vs) + n = omega arith in subst C q h in
      let i = past fr a vs g.1 C' u k (other_count (λ n. C (suc (length vs) + n)) (λ n. C' (length vs + n)) u k to fro r) in
      let b = behind G f (Many C') ended (flat_map f vs ++ u) (length (flat_map f vs) + k) v fr g.0 i in
      let eu : f v ++ (flat_map f vs ++ u) ≡ (f v ++ flat_map f vs) ++ u = sym (append_assoc (f v) (flat_map f vs) u) in
      let ek : length (f v) + (length (flat_map f vs) + k) ≡ length (f v ++ flat_map f vs) + k = omega (arith, length-append (f v) (flat_map f vs)) in
      let m = more_breaks C (f v ++ (flat_map f vs ++ u)) (length (f v) + (length (flat_map f vs) + k)) (λ y h q. a v (flat_map f vs ++ u) y g.0 q) b in
      subst (λ i. Breaks (Many C) ended ((f v ++ flat_map f vs) ++ u) i) ek (subst (λ s. Breaks (Many C) ended s (length (f v) + (length (flat_map f vs) + k))) eu m)
