-- What was found, together with the trees of the parts that wait, is what the whole tree says.
use Rattle.std.proofs.Common.{◌<◌, [], length}
use Rattle.asa_shadow.specs.Walks.{part_tree, pending, IsLeft}
use Rattle.asa_shadow.proofs.walk.walk_tree.Given as goal

abbrev pub invariant-loop-part : goal.invariant-loop-part
invariant-loop-part l = record {
  left : IsLeft [] l.fn.found (part_tree l.boxes l.fn.root) l.walk.nodes.items l.walk.found (pending l.boxes l.walk.waiting.items);
  below : l.walk.found.cuts < l.limit;
}

abbrev pub decreases-loop-part : goal.decreases-loop-part
decreases-loop-part l = length (pending l.boxes l.walk.waiting.items)
