-- Any machine that can always be brought to an end, and accepts just what is printed, stops where the text breaks.
use Rattle.std.proofs.Common.{◌≡◌, ℕ, suc, ◌+◌, ◌<◌, ◌≤◌, List, [], ◌∷◌, ◌++◌, length, get_or, take, drop, sym, refl, ap, ◌∙◌, subst, append-nil, arith}
use Rattle.std.proofs.lemmas.List.{at_drop_more, drop_all}
use Rattle.fleet_list.specs.Machine.{Turn, refuse, next, done}
use Rattle.fleet_list.specs.Forms.{Breaks}

pub data Got (V : Type 0) : Type 0 where
  got : V → ℕ → List ℕ → Got V
  bad : ℕ → Got V

-- a text from place p on
abbrev pub run : {S V : Type 0} → (S → ℕ → Turn S V) → S → ℕ → List ℕ → Got V
run f s p [] = bad p
run f s p (b ∷ t) = elim (f s b) [ refuse ↦ bad p | next q ↦ run f q (p + 1) t | done v ↦ got v (p + 1) t ]

abbrev pub went : {S V : Type 0} → (S → ℕ → Turn S V) → Turn S V → ℕ → List ℕ → Got V
went f m p t = elim m [ refuse ↦ bad p | next q ↦ run f q (p + 1) t | done v ↦ got v (p + 1) t ]

pub is_went : {S V : Type 0} (f : S → ℕ → Turn S V) (s : S) (p b : ℕ) (t : List ℕ) (m : Turn S V) → f s b ≡ m → run f s p (b ∷ t) ≡ went f m p t
is_went f s p b t m e = ap (λ x. went f x p t) e

pub record Ends {S V : Type 0} (f : S → ℕ → Turn S V) (s : S) (p : ℕ) : Type 0 where
  pub with : List ℕ
  pub value : V
  pub past : ℕ
  pub accepts : run f s p with ≡ got value past []

record Stop {S V : Type 0} (f : S → ℕ → Turn S V) (s : S) (p : ℕ) (t : List ℕ) (k : ℕ) : Type 0 where
  i : ℕ
  is : k ≡ p + i
  within : i ≤ length t
  with : List ℕ
  value : V
  past : ℕ
  accepts : run f s p (take i t ++ with) ≡ got value past []
  stuck : i < length t → (u : List ℕ) → run f s p (take (suc i) t ++ u) ≡ bad k

module _ {S V : Type 0} (f : S → ℕ → Turn S V) (Live : S → Type 0) (ends : (s : S) (p : ℕ) → Live s → Ends f s p) (keeps : (s q : S) (b : ℕ) → f s b ≡ next q → Live s → Live q) where
  stop_by : (s : S) (p b : ℕ) (t : List ℕ) (k : ℕ) (m : Turn S V) → f s b ≡ m → Live s → ((q : S) → Live q → run f q (p + 1) t ≡ bad k → Stop f q (p + 1) t k) → went f m p t ≡ bad k → Stop f s p (b ∷ t) k
  stop_by s p b t k refuse v r ih e =
      let c = ends s p r in
      let ek : p ≡ k = cc in
      record { i = 0; is = omega arith; within = omega arith; with = c.with; value = c.value; past = c.past; accepts = c.accepts; stuck = λ l u. is_went f s p b u refuse v ∙ e }
  stop_by s p b t k (next q) v r ih e =
      let h = ih q (keeps s q b v r) e in
      record {
        i = suc h.i;
        is = omega (arith, h.is);
        within = omega (arith, h.within);
        with = h.with;
        value = h.value;
        past = h.past;
        accepts = is_went f s p b (take h.i t ++ h.with) (next q) v ∙ h.accepts;
        stuck = λ l u. is_went f s p b (take (suc h.i) t ++ u) (next q) v ∙ h.stuck (omega arith) u;
      }
  stop_by s p b t k (done x) v r ih e = let z : ◌≡◌ {A = ℕ} 0 1 = cc in absurd (omega arith)

  stop : (s : S) (p : ℕ) (t : List ℕ) (k : ℕ) → Live s → run f s p t ≡ bad k → Stop f s p t k
  stop s p [] k r e =
      let c = ends s p r in
      let ek : p ≡ k = cc in
      record { i = 0; is = omega arith; within = omega arith; with = c.with; value = c.value; past = c.past; accepts = c.accepts; stuck = λ l u. absurd (omega arith) }
  stop s p (b ∷ t) k r e = stop_by s p b t k (f s b) refl r (λ q r' e'. stop q (p + 1) t k r' e') e

  pub breaks : (Good : V → Type 0) (print : V → List ℕ) (s : S) → Live s
      → ((p : ℕ) (v : V) (w : List ℕ) → Good v → (q : ℕ) × (run f s p (print v ++ w) ≡ got v q w))
      → ((p : ℕ) (t u : List ℕ) (v : V) (q : ℕ) → run f s p t ≡ got v q u → Good v × (t ≡ print v ++ u))
      → (p : ℕ) (t : List ℕ) (k : ℕ) → run f s p t ≡ bad k → (i : ℕ) × (k ≡ p + i) × Breaks Good print t i
  breaks Good print s r printed accepted o t k e =
      let h = stop s o t k r e in
      let a = accepted o (take h.i t ++ h.with) [] h.value h.past h.accepts in (
        h.i,
        h.is,
        record {
          within = h.within;
          before = record { value = h.value; rest = h.with; good = a.0; begins = sym (a.1 ∙ append-nil (print h.value)) };
          here = λ l v.
              let p = printed o v.value [] v.good in
              let sk : suc h.i ≡ h.i + 1 = omega arith in
              let b : run f s o (take (h.i + 1) t ++ v.rest) ≡ bad k = subst (λ j. run f s o (take j t ++ v.rest) ≡ bad k) sk (h.stuck l v.rest) in
              let c : run f s o (take (h.i + 1) t ++ v.rest) ≡ got v.value p.0 [] = ap (run f s o) (sym v.begins ∙ sym (append-nil (print v.value))) ∙ p.1 in
              let z : ◌≡◌ {A = ℕ} 0 1 = cc in
              omega arith;
          none = λ v w g eq.
              let p = printed o v w g in
              let c : run f s o t ≡ got v p.0 w = ap (run f s o) eq ∙ p.1 in
              let z : ◌≡◌ {A = ℕ} 0 1 = cc in
              omega arith;
        },
      )

-- one byte more of a text that is read from place p on
pub step_is : {S V : Type 0} (f : S → ℕ → Turn S V) (s : S) (p : ℕ) (text : List ℕ) (m : Turn S V) → p < length text → m ≡ f s (get_or text p 0) → run f s p (drop p text) ≡ went f m p (drop (p + 1) text)
step_is f s p text m l e = at_drop_more (run f s p) text p 0 l ∙ is_went f s p (get_or text p 0) (drop (p + 1) text) m (sym e)

pub short_is : {S V : Type 0} (f : S → ℕ → Turn S V) (s : S) (p : ℕ) (text : List ℕ) → length text ≤ p → run f s p (drop p text) ≡ bad p
short_is f s p text l = ap (run f s p) (drop_all p text l)
