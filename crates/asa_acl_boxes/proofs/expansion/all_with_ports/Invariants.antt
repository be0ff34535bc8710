use Rattle.std.proofs.Common.{◌≡◌, take}
use Rattle.asa_acl_boxes.specs.Boxes.{all_with_ports}
use Rattle.asa_acl_boxes.proofs.expansion.all_with_ports.Given as goal

abbrev pub invariant-loop-proto : goal.invariant-loop-proto
invariant-loop-proto l = l.services.items ≡ all_with_ports (take l.proto-index l.protos) l.sports l.dports
