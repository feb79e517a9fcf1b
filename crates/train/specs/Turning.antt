-- Turning a list, and the two kinds of entries.
use Rattle.std.specs.Prelude.{◌≡◌, List, [], ◌∷◌, map, reverse}
use Rattle.train.specs.declared.facing.Facing.{Facing}
use Rattle.train.specs.declared.facing.Facing.TheVariants.{Direct, Inverse}
use Rattle.train.specs.declared.identity.Identity.{Identity}
use Rattle.train.specs.declared.entries.Coupled.{Coupled}
use Rattle.train.specs.declared.entries.Vehicle.{Vehicle}
use Rattle.train.specs.Facings.{opposite}

-- the order reversed, each entry turned
abbrev pub turned_list : {A : Type 0} → (A → A) → List A → List A
turned_list turn xs = map turn (reverse xs)

abbrev pub turned_coupled : Coupled → Coupled
turned_coupled e = record { identity = e.identity; facing = opposite e.facing }

abbrev pub turned_vehicle : Vehicle → Vehicle
turned_vehicle v = record { name = v.name; facing = opposite v.facing }

abbrev pub coupled : Identity → Facing → Coupled
coupled x f = record { identity = x; facing = f }

-- A inverse, B direct turns into B inverse, A direct
abbrev pub TurnedExample : Type 0
TurnedExample =
    (a b : Identity) → turned_list turned_coupled (coupled a Inverse ∷ coupled b Direct ∷ []) ≡ coupled b Inverse ∷ coupled a Direct ∷ []
