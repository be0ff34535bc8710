use Rattle.std.proofs.Common.{◌≡◌, ◌++◌, drop, map}
use Rattle.asa_base.specs.Members.{member_range}
use Rattle.asa_nat_rules.specs.Pools.{pat_span}
use Rattle.asa_nat_rules.proofs.pools.push_all.Given as goal

abbrev pub invariant-loop-member : goal.invariant-loop-member
invariant-loop-member l = l.spans.items ++ map (pat_span l.ports l.extended) (map member_range (drop l.member-index l.members)) ≡ l.initial.spans.items ++ map (pat_span l.ports l.extended) (map member_range l.members)
