-- Consists in tables: a head for each, and the vehicles of all of them one behind another.
use Rattle.std.specs.Prelude.{ℕ, ◌+◌, List, [], ◌∷◌, take, drop}
use Rattle.train.specs.declared.entries.Vehicle.{Vehicle}
use Rattle.fleet_list.specs.declared.tables.Head.{Head}
use Rattle.fleet.specs.Books.{Item}

-- the consist of a head, whose vehicles stand at the front of vs
abbrev pub item_of : Head → List Vehicle → Item
item_of h vs = record { identity = h.identity; consist = record { counter = h.counter; vehicles = take h.count vs } }

abbrev pub gathered : List Head → List Vehicle → List Item
gathered [] vs = []
gathered (h ∷ hs) vs = item_of h vs ∷ gathered hs (drop h.count vs)

-- how many vehicles the heads have together
abbrev pub counts : List Head → ℕ
counts [] = 0
counts (h ∷ hs) = h.count + counts hs
