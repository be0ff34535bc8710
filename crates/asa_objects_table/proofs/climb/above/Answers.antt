use Rattle.std.proofs.lemmas.Bool.{false≢true}
use Rattle.asa_objects_table.proofs.ClimbLaws.{start-from, step-from, end-from}
use Rattle.asa_objects_table.proofs.climb.above.Goals as goal

pub loop-label-init : goal.loop-label-init
loop-label-init c = rw c.new-found.ensures.items (start-from _ _ _ c.args.stamp _ c.requires.sound c.requires.there c.new-waiting.result c.insert.new.self c.new-waiting.ensures.empty _ _ c.label_of.ensures c.copy.ensures c.in_ok-insert.ensures.updates)

pub loop-label-preserved : goal.loop-label-preserved
loop-label-preserved c = rw c.in_ok-push.ensures.items (step-from _ _ _ c.args.stamp _ c.requires.sound c.requires.there _ c.loop-label.waiting c.pop_first.new.self c.wait_for_users.new.waiting c.loop-label.floor _ _ c.loop-label.invariant c.in-Some.ensures.value c.in-Some.ensures.least c.in-Some.ensures.updates c.in_ok-wait_for_users.ensures)

pub returns : goal.returns
returns c = end-from _ _ _ c.args.stamp _ c.requires.sound _ c.loop-label.waiting c.loop-label.floor c.loop-label.invariant (λ lt. false≢true (c.in_default.ensures.variant.1 lt))
