-- Facings: which way something stands along what holds it.
use Rattle.std.specs.Prelude.{◌≡◌, ℕ, Bool, true, false, cond, Some, None, Option, ◌==◌}
use Rattle.train.specs.declared.facing.Facing.{Facing}
use Rattle.train.specs.declared.facing.Facing.TheVariants.{NotKnown, Direct, Inverse}

-- the number by which a facing is written
abbrev pub code : Facing → ℕ
code NotKnown = 0
code Direct = 1
code Inverse = 2

-- the facing that a number writes
abbrev pub coded : ℕ → Option Facing
coded n = cond (n == 0) (Some NotKnown) (cond (n == 1) (Some Direct) (cond (n == 2) (Some Inverse) None))

-- direct or inverse
abbrev pub known : Facing → Bool
known NotKnown = false
known Direct = true
known Inverse = true

-- a facing within something that has a facing itself
abbrev pub composed : Facing → Facing → Facing
composed NotKnown g = NotKnown
composed Direct g = g
composed Inverse NotKnown = NotKnown
composed Inverse Direct = Inverse
composed Inverse Inverse = Direct

-- seen from the other end: direct and inverse change places
abbrev pub opposite : Facing → Facing
opposite NotKnown = NotKnown
opposite Direct = Inverse
opposite Inverse = Direct

pub record FacingLaws : Type 0 where
  pub associative : (f g h : Facing) → composed (composed f g) h ≡ composed f (composed g h)
  pub commutative : (f g : Facing) → composed f g ≡ composed g f
  pub neutral : (f : Facing) → composed Direct f ≡ f
  pub unknown : (f : Facing) → composed NotKnown f ≡ NotKnown
  pub undoes : (f : Facing) → known f ≡ true → composed f f ≡ Direct
  pub turns : (f : Facing) → opposite f ≡ composed Inverse f
  pub reads : (f : Facing) → coded (code f) ≡ Some f
