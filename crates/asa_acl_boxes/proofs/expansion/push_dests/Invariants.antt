use Rattle.std.proofs.Common.{◌≡◌, ◌++◌, drop, map}
use Rattle.asa_acl_boxes.specs.Boxes.{with_ports}
use Rattle.asa_acl_boxes.proofs.expansion.push_dests.Given as goal

abbrev pub invariant-loop-dport : goal.invariant-loop-dport
invariant-loop-dport l = l.services.items ++ map (λ d. with_ports l.proto l.sport d) (drop l.dport-index l.dports) ≡ l.initial.services.items ++ map (λ d. with_ports l.proto l.sport d) l.dports
