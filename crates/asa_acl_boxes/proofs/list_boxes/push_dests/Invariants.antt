use Rattle.std.proofs.Common.{◌≡◌, ◌++◌, take, map}
use Rattle.std.specs.List.{flat_map}
use Rattle.asa_acl_boxes.specs.Boxes.{box_of}
use Rattle.asa_acl_boxes.proofs.list_boxes.push_dests.Given as goal

abbrev pub invariant-loop-dest : goal.invariant-loop-dest
invariant-loop-dest l = l.boxes.items ≡ l.initial.boxes.items ++ flat_map (λ d. map (λ v. box_of l.entry.line l.entry.permit l.source d v) l.services) (take l.dest-index l.dests)
