use Rattle.asa_acl_boxes.proofs.BoxLaws.{flat_taken}
use Rattle.asa_acl_boxes.proofs.expansion.push_sources.Goals as goal

pub loop-sport-preserved : goal.loop-sport-preserved
loop-sport-preserved c = flat_taken _ _ _ _ _ _ _ c.loop-sport.invariant c.loop-sport-test.true c.sport-item.is c.in_ok-push_dests.ensures
