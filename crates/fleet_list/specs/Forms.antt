-- Forms of text: the values that are good, and how each is written. Where a text breaks a form, and what a reader of a
-- form answers.
use Rattle.std.specs.Prelude.{◌≡◌, ℕ, ◌+◌, ◌<◌, ◌≤◌, List, ◌++◌, length, take, drop, Ok, Err, Result, ◌≢◌}
use Rattle.train.specs.declared.refusal.Part.TheVariants.{Text}
use Rattle.train.specs.declared.refusal.Place.TheVariants.{InLine}
use Rattle.train.specs.declared.refusal.Reason.TheVariants.{LineForm}
use Rattle.train.specs.declared.refusal.Refusal.{Refusal}

-- some good value's text begins with p
pub record Viable {V : Type 0} (Good : V → Type 0) (print : V → List ℕ) (p : List ℕ) : Type 0 where
  pub value : V
  pub rest : List ℕ
  pub good : Good value
  pub begins : print value ≡ p ++ rest

-- the text t begins with no good value's text; some begins with its first k bytes, and none with one byte more of it
pub record Breaks {V : Type 0} (Good : V → Type 0) (print : V → List ℕ) (t : List ℕ) (k : ℕ) : Type 0 where
  pub within : k ≤ length t
  pub before : Viable Good print (take k t)
  pub here : k < length t → Viable Good print (take (k + 1) t) → ⊥
  pub none : (v : V) (w : List ℕ) → Good v → t ≢ print v ++ w

-- what begins with one printed value begins with no other
abbrev pub Front : {V : Type 0} → (V → Type 0) → (V → List ℕ) → Type 0
Front {V} Good print = (v v' : V) (w w' : List ℕ) → Good v → Good v' → print v ++ w ≡ print v' ++ w' → (v ≡ v') × (w ≡ w')

-- one form behind another
abbrev pub Both : {V W : Type 0} → (V → Type 0) → (W → Type 0) → V × W → Type 0
Both G H x = G x.0 × H x.1

abbrev pub joint : {V W : Type 0} → (V → List ℕ) → (W → List ℕ) → V × W → List ℕ
joint f g x = f x.0 ++ g x.1

-- the text has the printed value v from place `from` on, and `end` is the place past it
pub record Reads {V : Type 0} (Good : V → Type 0) (print : V → List ℕ) (t : List ℕ) (from : ℕ) (v : V) (end : ℕ) : Type 0 where
  pub good : Good v
  pub here : drop from t ≡ print v ++ drop end t
  pub long : end ≡ from + length (print v)
  pub within : end ≤ length t

-- the refusal of a line that breaks the form
abbrev pub fault : ℕ → ℕ → Refusal
fault line byte = record { part = Text; reason = LineForm; place = InLine line byte }

-- the text from place `from` on breaks at the fault's byte, counted from 1
pub record Refused {V : Type 0} (Good : V → Type 0) (print : V → List ℕ) (t : List ℕ) (from line : ℕ) (f : Refusal) : Type 0 where
  pub k : ℕ
  pub is : f ≡ fault line (from + k + 1)
  pub breaks : Breaks Good print (drop from t) k

-- `of` is the value that is meant by what the reader answers
abbrev pub Answer : {V R : Type 0} → (V → Type 0) → (V → List ℕ) → (R → V) → List ℕ → ℕ → ℕ → Result (R × ℕ) Refusal → Type 0
Answer Good print of t from line (Ok r) = Reads Good print t from (of r.0) r.1
Answer Good print of t from line (Err f) = Refused Good print t from line f
