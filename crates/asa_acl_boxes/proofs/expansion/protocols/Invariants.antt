use Rattle.std.proofs.Common.{◌≡◌, ◌++◌, drop, map}
use Rattle.asa_acl_boxes.proofs.expansion.protocols.Given as goal

abbrev pub invariant-loop-service : goal.invariant-loop-service
invariant-loop-service l = l.protocols.items ++ map (λ s. s.proto) (drop l.service-index l.services) ≡ map (λ s. s.proto) l.services
