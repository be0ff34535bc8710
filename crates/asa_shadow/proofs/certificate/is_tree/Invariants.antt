-- The nodes that are left are the trees of the regions that wait, the last one first.
use Rattle.std.proofs.Common.{◌≡◌, ◌∷◌, [], drop, reverse}
use Rattle.asa_shadow.specs.Certificates.{are_trees}
use Rattle.asa_shadow.proofs.certificate.is_tree.Given as goal

abbrev pub invariant-loop-node : goal.invariant-loop-node
invariant-loop-node l = are_trees l.boxes l.line (reverse l.pending.items) (drop l.node-index l.nodes) ≡ are_trees l.boxes l.line (l.region ∷ []) l.nodes
