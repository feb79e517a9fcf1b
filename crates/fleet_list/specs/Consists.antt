-- What consists in tables mean.
use Rattle.std.specs.Prelude.{List}
use Rattle.fleet.specs.Books.{Item}
use Rattle.fleet_list.specs.declared.consists.Consist.{Consist}
use Rattle.fleet_list.specs.declared.consists.Consists.{Consists}
use Rattle.fleet_list.specs.Tables.{gathered}

abbrev pub item_in : Consist → Item
item_in c = record { identity = c.head.now.identity; consist = record { counter = c.head.now.counter; vehicles = c.vehicles.now } }

abbrev pub items_in : Consists → List Item
items_in c = gathered c.heads.now c.vehicles.now
