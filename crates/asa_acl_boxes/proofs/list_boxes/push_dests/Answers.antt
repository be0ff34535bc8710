use Rattle.asa_acl_boxes.proofs.BoxLaws.{flat_taken}
use Rattle.asa_acl_boxes.proofs.list_boxes.push_dests.Goals as goal

pub loop-dest-preserved : goal.loop-dest-preserved
loop-dest-preserved c = flat_taken _ _ _ _ _ _ _ c.loop-dest.invariant c.loop-dest-test.true c.dest-item.is c.in_ok-push_services.ensures
