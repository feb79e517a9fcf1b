-- A decimal counter from 1 to 4294967295, with a space behind it.
use Rattle.std.specs.Prelude.{ℕ, ◌+◌, ◌-◌, ◌*◌, ◌<◌, cond, List, [], ◌∷◌, ◌++◌, decimal, Some, None, Option, ◌==◌, nat_le, nat_lt}
use Rattle.fleet_list.specs.Machine.{Turn, refuse, next, done}

-- the turn of a byte b behind the digits of v, which is 0 where there are none
abbrev pub digit : ℕ → ℕ → Turn ℕ ℕ
digit v b =
    cond (b == 32) (cond (nat_lt 0 v) (done v) refuse)
    (cond (nat_le 48 b) (cond (nat_le b 57) (cond (nat_lt 0 (v * 10 + (b - 48))) (cond (nat_lt (v * 10 + (b - 48)) 4294967296) (next (v * 10 + (b - 48))) refuse) refuse) refuse) refuse)

-- the turn of a digit that makes this number, or none
abbrev pub turn_of : Option ℕ → Turn ℕ ℕ
turn_of (Some v) = next v
turn_of None = refuse

abbrev pub Counter : ℕ → Type 0
Counter n = (0 < n) × (n < 4294967296)

abbrev pub counter_text : ℕ → List ℕ
counter_text n = decimal n ++ 32 ∷ []
