-- The trees that are left are those of the boxes of the line that are left.
use Rattle.std.proofs.Common.{◌≡◌, ◌≤◌, drop, length}
use Rattle.asa_shadow.specs.Certificates.{boxes_of_line, have_trees}
use Rattle.asa_shadow.proofs.certificate.are_trees.Given as goal

abbrev pub invariant-loop-found : goal.invariant-loop-found
invariant-loop-found l = record {
  within : l.next ≤ length l.trees;
  same : have_trees l.boxes l.line (boxes_of_line (drop l.found-index l.boxes) l.line) (drop l.next l.trees)
      ≡ have_trees l.boxes l.line (boxes_of_line l.boxes l.line) l.trees;
}
