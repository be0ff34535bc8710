use Rattle.std.proofs.Common.{◌≡◌, ◌++◌, drop, map}
use Rattle.asa_acl_boxes.proofs.expansion.push_dest_ports.Given as goal

abbrev pub invariant-loop-service : goal.invariant-loop-service
invariant-loop-service l = l.ranges.items ++ map (λ s. s.dport) (drop l.service-index l.services) ≡ l.initial.ranges.items ++ map (λ s. s.dport) l.services
