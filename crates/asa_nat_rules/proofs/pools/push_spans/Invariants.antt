use Rattle.std.proofs.Common.{◌≡◌, ◌++◌, drop}
use Rattle.std.specs.List.{flat_map}
use Rattle.asa_nat_rules.specs.Pools.{span_of}
use Rattle.asa_nat_rules.proofs.pools.push_spans.Given as goal

abbrev pub invariant-loop-member : goal.invariant-loop-member
invariant-loop-member l = l.ranges.items ++ flat_map span_of (drop l.member-index l.members) ≡ l.initial.ranges.items ++ flat_map span_of l.members
