-- What was found, together with the trees of the boxes that are left, is what all trees say.
use Rattle.std.proofs.Common.{◌<◌, drop}
use Rattle.asa_shadow.specs.Walks.{AreLeft, named, trees_over}
use Rattle.asa_shadow.proofs.judgement.walk_boxes.Given as goal

abbrev pub invariant-loop-start : goal.invariant-loop-start
invariant-loop-start l = record {
  left : AreLeft (trees_over (named l.boxes l.earlier) l.starts) l.found l.trees (trees_over (named l.boxes l.earlier) (drop l.start-index l.starts));
  below : l.found.cuts < l.limit;
}
