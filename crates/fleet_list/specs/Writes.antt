-- Bytes written at the front of bytes that are lent.
use Rattle.std.specs.Prelude.{◌≡◌, ℕ, ◌≤◌, List, ◌++◌, length, drop}

-- `out` is `xs` with `a`, of n bytes, written at its front
pub record Written (a xs : List ℕ) (n : ℕ) (out : List ℕ) : Type 0 where
  pub wrote : out ≡ a ++ drop n xs
  pub long : length a ≡ n
  pub fits : n ≤ length xs
