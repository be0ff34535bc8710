-- The connection leaves the four rings.
use Rattle.asa_conn_table.proofs.ShelfLaws.{take_mirrors}
use Rattle.asa_conn_table.proofs.shelf.Shelf.take.Goals as goal

pub invariant_of-self : goal.invariant_of-self
invariant_of-self c = record {
  forward = take_mirrors c.self.inside c.args.self.now c.self.view_is c.self.invariant.forward c.args.place c.part.new.self c.take.new.self c.take.ensures.after c.requires.within c.part.ensures;
  reply = take_mirrors c.self.inside c.args.self.now c.self.view_is c.self.invariant.reply c.args.place c.part-2.new.self c.take.new.self c.take.ensures.after c.requires.within c.part-2.ensures;
  ids = take_mirrors c.self.inside c.args.self.now c.self.view_is c.self.invariant.ids c.args.place c.part-3.new.self c.take.new.self c.take.ensures.after c.requires.within c.part-3.ensures;
  order = take_mirrors c.self.inside c.args.self.now c.self.view_is c.self.invariant.order c.args.place c.part-4.new.self c.take.new.self c.take.ensures.after c.requires.within c.part-4.ensures;
}
