use Rattle.std.proofs.Common.{◌≡◌, ◌++◌, drop}
use Rattle.std.specs.List.{flat_map}
use Rattle.asa_shadow.specs.FindingTexts.{node_text}
use Rattle.asa_shadow.proofs.finding_text.push_nodes.Given as goal

abbrev pub invariant-loop-node : goal.invariant-loop-node
invariant-loop-node l = l.out.items ++ flat_map node_text (drop l.node-index l.nodes) ≡ l.initial.out.items ++ flat_map node_text l.nodes
