use Rattle.std.proofs.Common.{◌≡◌, ◌++◌, drop, map, filter}
use Rattle.asa_acl_boxes.specs.Boxes.{has_ports}
use Rattle.asa_acl_boxes.proofs.expansion.protocols_with_ports.Given as goal

abbrev pub invariant-loop-service : goal.invariant-loop-service
invariant-loop-service l = l.protocols.items ++ filter has_ports (map (λ s. s.proto) (drop l.service-index l.services)) ≡ filter has_ports (map (λ s. s.proto) l.services)
