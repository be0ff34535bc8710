-- The next place up has the next id.
use Rattle.std.proofs.Common.{arith}
use Rattle.asa_conn_table.proofs.ShelfLaws.{next_is_some, next_is_none}
use Rattle.asa_conn_table.proofs.shelf.Shelf.next.Goals as goal

pub returns-then-next-places : goal.returns-then-next-places
returns-then-next-places c = λ conn here.
    next_is_some c.self.inside c.args.self.now c.self.view_is c.self.invariant c.args.place conn c.newer-next.result here c.newer-next.ensures.next (omega (arith, c.if-next-places.true, c.places.ensures.value))

pub returns-else-next-places : goal.returns-else-next-places
returns-else-next-places c = λ conn here.
    next_is_none c.self.inside c.args.self.now c.self.view_is c.self.invariant c.args.place conn c.newer-next.result here c.newer-next.ensures.next (omega (arith, c.if-next-places.false, c.places.ensures.value))
