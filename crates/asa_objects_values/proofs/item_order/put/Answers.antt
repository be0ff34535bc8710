use Rattle.std.proofs.Common.{◌∷◌, [], ◌++◌, ap, ◌∙◌}
use Rattle.asa_objects_values.proofs.OrderLaws.{insert-last}
use Rattle.asa_objects_values.proofs.item_order.put.Goals as goal

pub returns-clause-ok : goal.returns-clause-ok
returns-clause-ok c =
    c.in_ok-insert.ensures.entries ∙ insert-last c.args.order.now.entries c.args.number c.copy.result c.requires
    ∙ ap (λ i. c.args.order.now.entries ++ (c.args.number, i) ∷ []) c.copy.ensures
