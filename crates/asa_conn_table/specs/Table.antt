-- The table: slots on a shelf, and the places that are free.
use Rattle.std.specs.Prelude.{◌≤◌, length}
use Rattle.std.specs.Vec.{vec_capacity}
use Rattle.asa_conn_table.specs.declared.table.ConnTable.TheInside.{Inside}
use Rattle.asa_conn_table.specs.Conns.{Table}
use Rattle.asa_conn_table.specs.Slots.{AreDistinct, AreFree, in_order}

-- what callers see of a table
abbrev pub table_of : Inside → Table
table_of t = record { conns = in_order t.shelf.slots; room = length t.shelf.slots }

-- there is room for each place among the free ones, which are those of free slots, and all connections are distinct
pub record IsTable (t : Inside) : Type 0 where
  pub room : length t.shelf.slots ≤ vec_capacity t.free
  pub free : AreFree t.shelf.slots t.free.items
  pub distinct : AreDistinct t.shelf.slots
