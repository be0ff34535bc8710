use Rattle.asa_acl_boxes.proofs.BoxLaws.{flat_taken}
use Rattle.asa_acl_boxes.proofs.list_boxes.push_sources.Goals as goal

pub loop-source-preserved : goal.loop-source-preserved
loop-source-preserved c = flat_taken _ _ _ _ _ _ _ c.loop-source.invariant c.loop-source-test.true c.source-item.is c.in_ok-push_dests.ensures
