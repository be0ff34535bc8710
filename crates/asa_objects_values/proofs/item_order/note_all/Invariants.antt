use Rattle.std.proofs.Common.{◌≤◌, length}
use Rattle.indexmap.specs.IndexMap.{spare}
use Rattle.asa_objects_values.specs.ItemOrder.{AreNoted}
use Rattle.asa_objects_values.proofs.item_order.note_all.Given as goal

abbrev pub invariant-loop-item : goal.invariant-loop-item
invariant-loop-item l = AreNoted l.initial.numbers.entries l.numbers.entries l.first l.number l.items l.item-iterator × (length l.item-iterator ≤ spare l.numbers)
