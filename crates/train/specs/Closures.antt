-- What a closure makes of the entries it is called with.
use Rattle.std.specs.Prelude.{◌≡◌}
use Rattle.std.specs.Fn.{Shared, FnReturnsAt}
use denote.Ref.{Bor}

-- each call of f at a reference gives what `of` says of the value behind it
abbrev pub Gives : {F T A : Type 0} → Shared F (Bor T × Unit {0}) A → F → (T → A) → Type 0
Gives {F} {T} {A} g f of = (x : T) (r : A) → FnReturnsAt g f x r → r ≡ of x
