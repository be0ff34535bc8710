use Rattle.std.proofs.Common.{◌≡◌, ◌++◌, drop, map}
use Rattle.asa_acl_boxes.specs.Boxes.{box_of}
use Rattle.asa_acl_boxes.proofs.list_boxes.push_services.Given as goal

abbrev pub invariant-loop-service : goal.invariant-loop-service
invariant-loop-service l = l.boxes.items ++ map (λ v. box_of l.entry.line l.entry.permit l.source l.dest v) (drop l.service-index l.services) ≡ l.initial.boxes.items ++ map (λ v. box_of l.entry.line l.entry.permit l.source l.dest v) l.services
