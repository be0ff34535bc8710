use Rattle.std.proofs.Common.{◌≡◌, ◌++◌, drop, map}
use Rattle.asa_base.specs.Members.{member_range}
use Rattle.asa_acl_boxes.proofs.expansion.push_members.Given as goal

abbrev pub invariant-loop-member : goal.invariant-loop-member
invariant-loop-member l = l.ranges.items ++ map member_range (drop l.member-index l.members) ≡ l.initial.ranges.items ++ map member_range l.members
