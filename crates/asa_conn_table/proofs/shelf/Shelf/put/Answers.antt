-- The connection joins the four rings with the highest stamp.
use Rattle.std.proofs.Common.{ap, ◌∙◌, ◌%◌, refl}
use Rattle.asa_conn_table.specs.Hash.{key_bucket}
use Rattle.asa_conn_table.proofs.ShelfLaws.{put_mirrors, stamps_below}
use Rattle.asa_conn_table.proofs.shelf.Shelf.put.Goals as goal

pub join-requires-clause-above : goal.join-requires-clause-above
join-requires-clause-above c = stamps_below c.self.inside c.args.self.now c.self.view_is c.self.invariant.forward c.args.conn.id c.requires.newest _

pub join-requires-2-clause-above : goal.join-requires-2-clause-above
join-requires-2-clause-above c = stamps_below c.self.inside c.args.self.now c.self.view_is c.self.invariant.reply c.args.conn.id c.requires.newest _

pub join-requires-3-clause-above : goal.join-requires-3-clause-above
join-requires-3-clause-above c = stamps_below c.self.inside c.args.self.now c.self.view_is c.self.invariant.ids c.args.conn.id c.requires.newest _

pub join-requires-4-clause-above : goal.join-requires-4-clause-above
join-requires-4-clause-above c = stamps_below c.self.inside c.args.self.now c.self.view_is c.self.invariant.order c.args.conn.id c.requires.newest _

pub invariant_of-self : goal.invariant_of-self
invariant_of-self c = record {
  forward = put_mirrors c.self.inside c.args.self.now c.self.view_is c.self.invariant.forward c.args.place c.args.conn c.join.new.self c.key_bucket-forward.result
      (c.key_bucket-forward.ensures.value ∙ ap (key_bucket c.args.conn.forward) c.buckets.ensures.value) c.requires.within c.requires.first c.join.ensures;
  reply = put_mirrors c.self.inside c.args.self.now c.self.view_is c.self.invariant.reply c.args.place c.args.conn c.join-2.new.self c.key_bucket-reply.result
      (c.key_bucket-reply.ensures.value ∙ ap (key_bucket c.args.conn.reply) c.buckets-2.ensures.value) c.requires.within c.requires.first c.join-2.ensures;
  ids = put_mirrors c.self.inside c.args.self.now c.self.view_is c.self.invariant.ids c.args.place c.args.conn c.join-3.new.self c.id_bucket-number.result
      (c.id_bucket-number.ensures.value ∙ ap (λ n. c.args.conn.id % n) c.buckets-3.ensures.value) c.requires.within c.requires.first c.join-3.ensures;
  order = put_mirrors c.self.inside c.args.self.now c.self.view_is c.self.invariant.order c.args.place c.args.conn c.join-4.new.self 0 refl c.requires.within c.requires.first c.join-4.ensures;
}
