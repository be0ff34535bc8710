use Rattle.std.proofs.Common.{◌≡◌, ◌∷◌, ◌-◌, length, take, rules, ap, subst, ◌∙◌}
use Rattle.asa_objects_values.specs.ItemOrder.{ArePlaced}
use Rattle.asa_objects_values.proofs.OrderLaws.{placed-more, placed-undone}
use Rattle.asa_objects_values.proofs.item_order.place.Goals as goal

pub loop-item-preserved : goal.loop-item-preserved
loop-item-preserved c =
    let next : c.loop-item.item-iterator ≡ c.in-Some.item.now ∷ c.next.new.self = search rules in
    placed-more c.args.order.now.entries c.loop-item.order.entries c.put.new.order.entries c.args.first c.loop-item.number c.args.items.now c.next.new.self c.in-Some.item.now
    (subst (ArePlaced c.args.order.now.entries c.loop-item.order.entries c.args.first c.loop-item.number c.args.items.now) next c.loop-item.invariant) (search rules)

pub returns-in-Err-clause-err : goal.returns-in-Err-clause-err
returns-in-Err-clause-err c =
    c.pop_many.ensures ∙ ap (λ es. take (length es - (c.loop-item.number - c.args.first)) es) c.in-Err.ensures.err
    ∙ placed-undone c.args.order.now.entries c.loop-item.order.entries c.args.first c.loop-item.number c.args.items.now c.loop-item.item-iterator c.loop-item.invariant
