use Rattle.asa_objects_values.specs.ItemOrder.{ArePlaced}
use Rattle.asa_objects_values.proofs.item_order.place.Given as goal

abbrev pub invariant-loop-item : goal.invariant-loop-item
invariant-loop-item l = ArePlaced l.initial.order.entries l.order.entries l.first l.number l.items l.item-iterator
