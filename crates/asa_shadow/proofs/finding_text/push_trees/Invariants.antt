use Rattle.std.proofs.Common.{◌≡◌, ◌++◌, drop}
use Rattle.std.specs.List.{flat_map}
use Rattle.asa_shadow.specs.FindingTexts.{tree_text}
use Rattle.asa_shadow.proofs.finding_text.push_trees.Given as goal

abbrev pub invariant-loop-tree : goal.invariant-loop-tree
invariant-loop-tree l = l.out.items ++ flat_map tree_text (drop l.tree-index l.trees) ≡ l.initial.out.items ++ flat_map tree_text l.trees
