use Rattle.std.proofs.Common.{ℕ, ◌≤◌, List, take}
use Rattle.indexmap.specs.IndexMap.{spare}
use Rattle.asa_objects_lines.specs.declared.statement.Item.{Item}
use Rattle.asa_objects_values.specs.Drafts.{standing}
use Rattle.asa_objects_values.specs.ItemOrder.{IsSplit, Numbered}
use Rattle.asa_objects_values.proofs.item_order.take_all.Given as goal

abbrev pub invariant-loop-item : goal.invariant-loop-item
invariant-loop-item l = ((first : ℕ) (back : Numbered) (items : List Item) → IsSplit l.initial.order.entries l.initial.numbers.entries first back items
    → IsSplit l.order.entries l.numbers.entries first back (standing items (take l.item-index l.gone)))
    × (spare l.initial.numbers ≤ spare l.numbers)
