use Rattle.std.proofs.Common.{◌≡◌, ◌++◌, drop}
use Rattle.asa_shadow.specs.Certificates.{boxes_of_line}
use Rattle.asa_shadow.proofs.judgement.line_boxes.Given as goal

abbrev pub invariant-loop-line_box : goal.invariant-loop-line_box
invariant-loop-line_box l = l.found.items ++ boxes_of_line (drop l.line_box-index l.boxes) l.line ≡ boxes_of_line l.boxes l.line
