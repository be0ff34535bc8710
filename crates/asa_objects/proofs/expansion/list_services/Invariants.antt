use Rattle.std.proofs.Common.{◌≡◌, ◌++◌}
use Rattle.asa_objects_values.specs.Tables.{services_of_name}
use Rattle.asa_objects.specs.Stacks.{unwound_services, cost}
use Rattle.asa_objects.proofs.expansion.list_services.Given as goal

abbrev pub invariant-loop-rest : goal.invariant-loop-rest
invariant-loop-rest l = l.out.items ++ unwound_services l.table l.stack.items ≡ services_of_name l.table l.name

abbrev pub decreases-loop-rest : goal.decreases-loop-rest
decreases-loop-rest l = cost l.table l.stack.items
