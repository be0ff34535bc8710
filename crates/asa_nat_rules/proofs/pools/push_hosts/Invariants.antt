use Rattle.std.proofs.Common.{◌≡◌, ◌++◌, drop, map}
use Rattle.std.specs.List.{flat_map}
use Rattle.asa_nat_rules.specs.Pools.{host_of, plain_span}
use Rattle.asa_nat_rules.proofs.pools.push_hosts.Given as goal

abbrev pub invariant-loop-member : goal.invariant-loop-member
invariant-loop-member l = l.spans.items ++ map plain_span (flat_map host_of (drop l.member-index l.members)) ≡ l.initial.spans.items ++ map plain_span (flat_map host_of l.members)
