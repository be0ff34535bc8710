use Rattle.std.proofs.Common.{◌≡◌, ◌++◌, take, map}
use Rattle.std.specs.List.{flat_map}
use Rattle.asa_acl_boxes.specs.Boxes.{with_ports}
use Rattle.asa_acl_boxes.proofs.expansion.push_sources.Given as goal

abbrev pub invariant-loop-sport : goal.invariant-loop-sport
invariant-loop-sport l = l.services.items ≡ l.initial.services.items ++ flat_map (λ s. map (λ d. with_ports l.proto s d) l.dports) (take l.sport-index l.sports)
