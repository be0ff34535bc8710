use Rattle.std.proofs.Common.{◌≡◌, ◌+◌, ◌++◌, drop}
use Rattle.asa_acl_boxes.specs.Boxes.{boxes_from}
use Rattle.asa_acl_boxes.proofs.list_boxes.all_boxes.Given as goal

abbrev pub invariant-loop-i : goal.invariant-loop-i
invariant-loop-i g l = l.boxes.items ++ boxes_from (g.M.Meaning.meanings l.meaning) (l.i + 1) (drop l.i l.lines) ≡ boxes_from (g.M.Meaning.meanings l.meaning) 1 l.lines
