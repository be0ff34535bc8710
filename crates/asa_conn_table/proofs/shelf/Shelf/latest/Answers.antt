-- The ring of all goes down from the highest id.
use Rattle.std.proofs.Common.{arith}
use Rattle.asa_conn_table.proofs.ShelfLaws.{latest_is_none, latest_is_some}
use Rattle.asa_conn_table.proofs.shelf.Shelf.latest.Goals as goal

pub returns-then-last-places : goal.returns-then-last-places
returns-then-last-places c =
    latest_is_some c.self.inside c.args.self.now c.self.view_is c.self.invariant c.end.result c.older-last.result c.end.ensures.value (c.older-last.ensures.next 0 c.end.ensures.home) (omega (arith, c.if-last-places.true, c.places.ensures.value)) c.stamp.result c.stamp.ensures

pub returns-else-last-places : goal.returns-else-last-places
returns-else-last-places c =
    latest_is_none c.self.inside c.args.self.now c.self.view_is c.self.invariant c.end.result c.older-last.result c.end.ensures.value (c.older-last.ensures.next 0 c.end.ensures.home) (omega (arith, c.if-last-places.false, c.places.ensures.value))
