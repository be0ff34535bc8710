use Rattle.std.proofs.Common.{◌≡◌}
use Rattle.asa_objects_table.specs.Ranks.{both_totals}
use Rattle.asa_objects_table.specs.Weights as spec
use Rattle.asa_objects_table.proofs.weights.weight_of_items.Given as goal

abbrev pub invariant-loop-item : goal.invariant-loop-item
invariant-loop-item l = both_totals l.totals (spec.weights l.ranks.entries l.group l.item-iterator) ≡ spec.weights l.ranks.entries l.group l.items
