use Rattle.std.proofs.Common.{sym, subst, ◌∙◌}
use Rattle.asa_objects_values.proofs.DraftLaws.{AreTaken, start-taking, step-taking}
use Rattle.asa_objects_values.proofs.draft.all_of.Goals as goal

pub loop-item-preserved : goal.loop-item-preserved
loop-item-preserved c =
    step-taking c.args.items.now c.loop-item.item-iterator c.next.new.self c.loop-item.all.keys c.insert.new.self.keys c.in-Some.item.now c.copy.result c.loop-item.invariant c.in-Some.ensures.steps c.copy.ensures
    c.in_ok-insert.ensures.updates.0 c.in_ok-insert.ensures.keys

pub loop-item-init : goal.loop-item-init
loop-item-init c =
    subst (λ rest. AreTaken c.args.items.now rest c.new-all.result.keys) (sym (c.into_iter-item-iterator.ensures.into_iter_gives ∙ c.values-item-items.ensures.rest))
    (start-taking c.args.items.now c.new-all.result.keys c.values-item-items.ensures.distinct c.new-all.ensures.empty)
