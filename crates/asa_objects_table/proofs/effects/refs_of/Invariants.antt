use Rattle.std.proofs.Common.{◌≡◌, ◌++◌}
use Rattle.asa_objects_values.specs.Tables.{refs_in}
use Rattle.asa_objects_table.proofs.effects.refs_of.Given as goal

abbrev pub invariant-loop-item : goal.invariant-loop-item
invariant-loop-item l = l.refs.items ++ refs_in l.item-iterator ≡ refs_in l.items
