-- Nothing stands in free slots.
use Rattle.std.proofs.Common.{arith}
use Rattle.asa_conn_table.proofs.OrderLaws.{order_empty}
use Rattle.asa_conn_table.proofs.TableLaws.{distinct_first, free_first}
use Rattle.asa_conn_table.proofs.table.ConnTable.new.Goals as goal

pub invariant_of-result : goal.invariant_of-result
invariant_of-result c = record {
  room = omega (arith, c.in_ok-free.ensures.room, c.in_ok-shelf.ensures.long);
  free = free_first c.in_ok-shelf.shelf.slots c.in_ok-free.free.items c.args.capacity c.in_ok-shelf.ensures.long c.in_ok-free.ensures.long c.in_ok-shelf.ensures.empty c.in_ok-free.ensures.each;
  distinct = distinct_first c.in_ok-shelf.shelf.slots c.in_ok-shelf.ensures.empty;
}

pub returns-clause-empty : goal.returns-clause-empty
returns-clause-empty c = order_empty c.in_ok-shelf.shelf.slots c.in_ok-shelf.ensures.empty
