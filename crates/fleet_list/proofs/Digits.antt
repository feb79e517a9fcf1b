-- The counter's machine against `decimal`.
use Rattle.std.proofs.Common.{◌≡◌, ℕ, ◌+◌, ◌-◌, ◌*◌, ◌/◌, ◌%◌, ◌<◌, ◌≤◌, Bool, true, false, cond, eqb, ltb, leb, List, [], ◌∷◌, ◌++◌, decimal, sym, refl, ap, ◌∙◌, subst, append_assoc, arith, ltb-true, lt-ltb, ne_eqb, eqb-true, le-leb, leb-true}
use borrow.Author.Tests.{eqb-false}
use Rattle.std.proofs.lemmas.Fmt.{decimal_digit, decimal_step, decimal_by_steps}
use Rattle.fleet_list.specs.Machine.{Turn, refuse, next, done}
use Rattle.fleet_list.proofs.Stops.{got, bad, run, went, is_went, Ends, breaks}
use Rattle.fleet_list.specs.Forms.{Breaks, Front}
use Rattle.fleet_list.specs.Counters.{digit, Counter as Good, counter_text as print}

abbrev Told : Turn ℕ ℕ → ℕ → ℕ → Type 0
Told refuse v b = Unit {0}
Told (next w) v b = (48 ≤ b) × (b ≤ 57) × (w ≡ v * 10 + (b - 48)) × (0 < w) × (w < 4294967296)
Told (done w) v b = (b ≡ 32) × (w ≡ v) × (0 < v)

told_digit : (v b : ℕ) (lo hi s m : Bool) → leb 48 b ≡ lo → leb b 57 ≡ hi → ltb 0 (v * 10 + (b - 48)) ≡ s → ltb (v * 10 + (b - 48)) 4294967296 ≡ m → Told (cond lo (cond hi (cond s (cond m (next (v * 10 + (b - 48))) refuse) refuse) refuse) refuse) v b
told_digit v b true true true true l h s m = (leb-true 48 b l, leb-true b 57 h, refl, ltb-true 0 (v * 10 + (b - 48)) s, ltb-true (v * 10 + (b - 48)) 4294967296 m)
told_digit v b true true true false l h s m = tt
told_digit v b true true false x l h s m = tt
told_digit v b true false y x l h s m = tt
told_digit v b false z y x l h s m = tt

told_end : (v b : ℕ) (z : Bool) → ltb 0 v ≡ z → b ≡ 32 → Told (cond z (done v) refuse) v b
told_end v b true z e = (e, refl, ltb-true 0 v z)
told_end v b false z e = tt

told_by : (v b : ℕ) (q : Bool) → eqb b 32 ≡ q → Told (cond q (cond (ltb 0 v) (done v) refuse) (cond (leb 48 b) (cond (leb b 57) (cond (ltb 0 (v * 10 + (b - 48))) (cond (ltb (v * 10 + (b - 48)) 4294967296) (next (v * 10 + (b - 48))) refuse) refuse) refuse) refuse)) v b
told_by v b true q = told_end v b (ltb 0 v) refl (eqb-true b 32 q)
told_by v b false q = told_digit v b (leb 48 b) (leb b 57) (ltb 0 (v * 10 + (b - 48))) (ltb (v * 10 + (b - 48)) 4294967296) refl refl refl refl

told : (v b : ℕ) → Told (digit v b) v b
told v b = told_by v b (eqb b 32) refl

-- the digits read so far
abbrev pre : ℕ → List ℕ
pre v = cond (eqb v 0) [] (decimal v)

pre_some : (v : ℕ) → 0 < v → pre v ≡ decimal v
pre_some v l = simp (ne_eqb v 0 (λ e. omega arith))

pre_more : (v d w : ℕ) (z : Bool) → eqb v 0 ≡ z → d < 10 → w ≡ v * 10 + d → 0 < w → w < 4294967296 → decimal w ≡ cond z [] (decimal v) ++ (48 + d) ∷ []
pre_more v d w true z l e some few =
    let v0 = eqb-true v 0 z in
    let wd : w ≡ d = omega arith in
    decimal_digit w (omega arith) ∙ ap (λ x. (48 + x) ∷ []) wd
pre_more v d w false z l e some few =
    let v1 : 0 < v = omega (arith, eqb-false v 0 z) in
    let q : w / 10 ≡ v = omega arith in
    let r : w % 10 ≡ d = omega arith in
    decimal_step w (omega arith) (omega arith) ∙ ap (λ x. decimal x ++ (48 + w % 10) ∷ []) q ∙ ap (λ x. decimal v ++ (48 + x) ∷ []) r

-- B
by_turn : (v p b : ℕ) (t : List ℕ) (n q : ℕ) (u : List ℕ) (m : Turn ℕ ℕ) → Told m v b → v < 4294967296 → ((w : ℕ) → w < 4294967296 → run digit w (p + 1) t ≡ got n q u → Good n × (pre w ++ t ≡ decimal n ++ 32 ∷ u)) → went digit m p t ≡ got n q u → Good n × (pre v ++ b ∷ t ≡ decimal n ++ 32 ∷ u)
by_turn v p b t n q u refuse h l ih e = let z : ◌≡◌ {A = ℕ} 0 1 = cc in absurd (omega arith)
by_turn v p b t n q u (next w) h l ih e =
    let i = ih w h.4 e in
    let back : 48 + (b - 48) ≡ b = omega (arith, h.0) in
    let more = pre_more v (b - 48) w (eqb v 0) refl (omega (arith, h.1)) h.2 h.3 h.4 in
    (i.0, sym (append_assoc (pre v) (b ∷ []) t) ∙ ap (λ x. (pre v ++ x ∷ []) ++ t) (sym back) ∙ ap (λ x. x ++ t) (sym more ∙ sym (pre_some w h.3)) ∙ i.1)
by_turn v p b t n q u (done w) h l ih e =
    let en : w ≡ n = cc in
    let eu : t ≡ u = cc in
    let vn : v ≡ n = sym h.1 ∙ en in
    ((omega (arith, h.2), omega arith), ap (λ x. x ++ b ∷ t) (pre_some v h.2) ∙ ap (λ x. decimal x ++ b ∷ t) vn ∙ ap (λ x. decimal n ++ x ∷ t) h.0 ∙ ap (λ x. decimal n ++ 32 ∷ x) eu)

accepted : (v p : ℕ) (t : List ℕ) (n q : ℕ) (u : List ℕ) → v < 4294967296 → run digit v p t ≡ got n q u → Good n × (pre v ++ t ≡ decimal n ++ 32 ∷ u)
accepted v p [] n q u l e = let z : ◌≡◌ {A = ℕ} 0 1 = cc in absurd (omega arith)
accepted v p (b ∷ t) n q u l e = by_turn v p b t n q u (digit v b) (told v b) l (λ w l' e'. accepted w (p + 1) t n q u l' e') e

pub accepted_printed : (p : ℕ) (t u : List ℕ) (n q : ℕ) → run digit 0 p t ≡ got n q u → Good n × (t ≡ print n ++ u)
accepted_printed p t u n q e = let a = accepted 0 p t n q u (omega arith) e in (a.0, a.1 ∙ sym (append_assoc (decimal n) (32 ∷ []) u))

-- A
digit_next : (v b w : ℕ) → 48 ≤ b → b ≤ 57 → w ≡ v * 10 + (b - 48) → 0 < w → w < 4294967296 → digit v b ≡ next w
digit_next v b w lo hi e some few =
    let s : 0 < v * 10 + (b - 48) = omega arith in
    let f : v * 10 + (b - 48) < 4294967296 = omega arith in
    let k : digit v b ≡ next (v * 10 + (b - 48)) = simp (ne_eqb b 32 (λ e. omega arith), le-leb 48 b lo, le-leb b 57 hi, lt-ltb 0 (v * 10 + (b - 48)) s, lt-ltb (v * 10 + (b - 48)) 4294967296 f) in
    k ∙ ap (λ x. next x) (sym e)

abbrev Runs : ℕ → List ℕ → Type 0
Runs n ds = 0 < n → n < 4294967296 → (p : ℕ) → (q : ℕ) × ((w : List ℕ) → run digit 0 p (ds ++ w) ≡ run digit n q w)

runs_one : (n : ℕ) → n < 10 → Runs n ((48 + n) ∷ [])
runs_one n l some few p = (p + 1, λ w. is_went digit 0 p (48 + n) w (next n) (digit_next 0 (48 + n) n (omega arith) (omega arith) (omega arith) some few))

runs_more : (n : ℕ) (ds : List ℕ) → 10 ≤ n → Runs (n / 10) ds → Runs n (ds ++ (48 + n % 10) ∷ [])
runs_more n ds l ih some few p =
    let i = ih (omega arith) (omega arith) p in
    (i.0 + 1, λ w. ap (run digit 0 p) (append_assoc ds ((48 + n % 10) ∷ []) w) ∙ i.1 ((48 + n % 10) ∷ w) ∙ is_went digit (n / 10) i.0 (48 + n % 10) w (next n) (digit_next (n / 10) (48 + n % 10) n (omega arith) (omega arith) (omega arith) some few))

pub printed_accepted : (p n : ℕ) (w : List ℕ) → Good n → (q : ℕ) × (run digit 0 p (print n ++ w) ≡ got n q w)
printed_accepted p n w g =
    let r = decimal_by_steps Runs runs_one runs_more n (omega (arith, g.1)) g.0 g.1 p in
    (r.0 + 1, ap (run digit 0 p) (append_assoc (decimal n) (32 ∷ []) w) ∙ r.1 (32 ∷ w) ∙ is_went digit n r.0 32 w (done n) (simp (lt-ltb 0 n g.0)))

-- C
ends_by : (s p : ℕ) (z : Bool) → eqb s 0 ≡ z → Ends digit s p
ends_by s p true z = subst (λ s. Ends digit s p) (sym (eqb-true s 0 z)) (record { with = 49 ∷ 32 ∷ []; value = 1; past = p + 1 + 1; accepts = refl })
ends_by s p false z = let l : 0 < s = omega (arith, eqb-false s 0 z) in record { with = 32 ∷ []; value = s; past = p + 1; accepts = is_went digit s p 32 [] (done s) (simp (lt-ltb 0 s l)) }

keeps : (s q b : ℕ) → digit s b ≡ next q → s < 4294967296 → q < 4294967296
keeps s q b e l = (subst (λ m. Told m s b) e (told s b)).4

pub refused_breaks : (p : ℕ) (t : List ℕ) (k : ℕ) → run digit 0 p t ≡ bad k → (i : ℕ) × (k ≡ p + i) × Breaks Good print t i
refused_breaks = breaks digit (λ s. s < 4294967296) (λ s p l. ends_by s p (eqb s 0) refl) keeps Good print 0 (omega arith) printed_accepted accepted_printed

pub front_counter : Front Good print
front_counter v v' w w' g g' e =
    let a = printed_accepted 0 v w g in
    let b = printed_accepted 0 v' w' g' in
    let c : got v a.0 w ≡ got v' b.0 w' = sym a.1 ∙ ap (run digit 0 0) e ∙ b.1 in
    (cc, cc)
