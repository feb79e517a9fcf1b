-- What a writer leaves in a slice that it is lent.
use Rattle.std.specs.Prelude.{◌≡◌, ℕ, ◌≤◌, List, ◌++◌, length, drop}

-- `after` is `before` with `a`, of n elements, written at its front
pub record Written {A : Type 0} (a before : List A) (n : ℕ) (after : List A) : Type 0 where
  pub wrote : after ≡ a ++ drop n before
  pub long : length a ≡ n
  pub fits : n ≤ length before
