use Rattle.std.proofs.Common.{is_some, ap, ◌∙◌}
use Rattle.asa_objects_values.specs.Definition.{has_item}
use Rattle.asa_objects_values.proofs.OrderLaws.{number-is}
use Rattle.asa_objects_values.proofs.item_order.OrderedItems.has.Goals as goal

pub returns-clause-value : goal.returns-clause-value
returns-clause-value c =
    c.contains_key.ensures ∙ ap is_some (c.self.invariant.known c.args.item.now) ∙ number-is c.self.inside.order.entries c.args.item.now
    ∙ ap (λ xs. has_item xs c.args.item.now) c.self.view_is
