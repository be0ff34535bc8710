-- One box more.
use Rattle.std.proofs.Common.{ap, arith}
use Rattle.std.proofs.lemmas.Grind.{common_steps}
use Rattle.asa_access_entries.specs.Matches.{box_covering, box_pairs, entries_covering}
use Rattle.asa_access_entries.proofs.MatchLaws.{box_cons, or_else_assoc, covering_none, sum_at}
use Rattle.asa_access_entries.proofs.entries.entries_of.Goals as goal

pub loop-b-init : goal.loop-b-init
loop-b-init c = record {
  first = λ p. grind (arith, common_steps, c.new-ranked.ensures);
  covering = λ p. let none = ap (entries_covering p) c.new-ranked.ensures in omega (arith, none, covering_none p);
  room = grind (arith, common_steps, c.new-ranked.ensures);
}

pub loop-b-preserved : goal.loop-b-preserved
loop-b-preserved c = record {
  first = λ p. grind (arith, common_steps, box_cons, or_else_assoc, c.loop-b.invariant.first p, c.in_ok-push_box.ensures.first p);
  covering = λ p. sum_at (box_covering p) c.args.boxes.now c.loop-b.b-index c.b-item.result _ _ _ c.loop-b-test.true c.b-item.is (c.in_ok-push_box.ensures.covering p) (c.loop-b.invariant.covering p);
  room = sum_at box_pairs c.args.boxes.now c.loop-b.b-index c.b-item.result _ _ _ c.loop-b-test.true c.b-item.is c.in_ok-push_box.ensures.longer c.loop-b.invariant.room;
}
