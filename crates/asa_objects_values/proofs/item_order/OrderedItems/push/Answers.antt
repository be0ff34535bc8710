use Rattle.std.proofs.Common.{◌∷◌, [], ◌++◌, rules, ap, ◌∙◌}
use Rattle.asa_objects_values.specs.Definition.{has_item}
use Rattle.asa_objects_values.proofs.OrderLaws.{pushed-sound, pushed-values}
use Rattle.asa_objects_values.proofs.item_order.OrderedItems.push.Goals as goal

pub invariant_of-self-2 : goal.invariant_of-self-2
invariant_of-self-2 c =
    pushed-sound c.self.inside.order.entries c.insert.new.self.entries c.self.inside.numbers.entries c.insert-2.new.self.entries c.self.inside.next c.in-Some.next c.args.item
    c.self.invariant (ap (λ xs. has_item xs c.args.item) c.self.view_is ∙ c.requires) (search rules)
    (search rules) (search rules)

pub returns-clause-ok : goal.returns-clause-ok
returns-clause-ok c =
    pushed-values c.self.inside.order.entries c.insert.new.self.entries c.self.inside.next c.args.item c.self.invariant.early (search rules)
    ∙ ap (λ xs. xs ++ c.args.item ∷ []) c.self.view_is
