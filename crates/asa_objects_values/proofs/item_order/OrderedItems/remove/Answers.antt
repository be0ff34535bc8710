use Rattle.std.proofs.Common.{[], ap, ◌∙◌}
use Rattle.asa_objects_values.specs.Definition.{without_item}
use Rattle.asa_objects_values.proofs.OrderLaws.{split-all, all-split}
use Rattle.asa_objects_values.proofs.item_order.OrderedItems.remove.Goals as goal

pub invariant_of-self : goal.invariant_of-self
invariant_of-self c =
    (all-split c.take_out.new.order.entries c.take_out.new.numbers.entries c.self.inside.next _
    (c.take_out.ensures.split c.self.inside.next [] _ (split-all c.self.inside.order.entries c.self.inside.numbers.entries c.self.inside.next c.self.invariant))).0

pub returns : goal.returns
returns c =
    (all-split c.take_out.new.order.entries c.take_out.new.numbers.entries c.self.inside.next _
    (c.take_out.ensures.split c.self.inside.next [] _ (split-all c.self.inside.order.entries c.self.inside.numbers.entries c.self.inside.next c.self.invariant))).1
    ∙ ap (λ xs. without_item xs c.args.item.now) c.self.view_is
