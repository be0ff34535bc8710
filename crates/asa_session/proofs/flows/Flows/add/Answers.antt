-- One more packet comes with its ends.
use Rattle.std.proofs.Common.{◌≡◌, length, ap, arith, length-append}
use Rattle.asa_session.proofs.EndsLaws.{finds_push}
use Rattle.asa_session.proofs.flows.Flows.add.Goals as goal

pub invariant_of-self-2 : goal.invariant_of-self-2
invariant_of-self-2 c = record {
  finds = rw (c.in-Ok.ensures.items, c.in_ok-reserve.ensures.items)
      (finds_push c.self.inside.ends.keys c.insert.new.self.keys c.self.inside.packets.items c.args.p c.of.result c.of.ensures c.in_ok-insert.ensures.updates.0 c.self.invariant.finds);
  few =
      let same : length c.self.inside.packets.items ≡ length c.args.self.now = ap length c.self.view_is in
      rw (c.in-Ok.ensures.items, c.in_ok-reserve.ensures.items) (simp length-append (omega (arith, c.requires)));
}
