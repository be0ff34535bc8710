use Rattle.asa_objects_values.proofs.DraftLaws.{AreTaken}
use Rattle.asa_objects_values.proofs.draft.all_of.Given as goal

abbrev pub invariant-loop-item : goal.invariant-loop-item
invariant-loop-item l = AreTaken l.items l.item-iterator l.all.keys
