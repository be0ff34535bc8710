use Rattle.std.proofs.Common.{◌≡◌, ◌++◌}
use Rattle.asa_objects_values.specs.Tables.{members_of}
use Rattle.asa_objects.specs.Stacks.{unwound_members, cost}
use Rattle.asa_objects.proofs.expansion.list_members.Given as goal

abbrev pub invariant-loop-rest : goal.invariant-loop-rest
invariant-loop-rest l = l.out.items ++ unwound_members l.table l.stack.items ≡ members_of l.table l.name

abbrev pub decreases-loop-rest : goal.decreases-loop-rest
decreases-loop-rest l = cost l.table l.stack.items
