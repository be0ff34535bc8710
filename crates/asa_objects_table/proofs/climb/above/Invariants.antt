use Rattle.std.proofs.Common.{◌-◌}
use Rattle.std.specs.BTreeMap.{get}
use Rattle.std.specs.Ordering.{nat_cmp}
use Rattle.asa_objects_table.proofs.ClimbLaws.{Climb}
use Rattle.asa_objects_table.proofs.climb.above.Given as goal

abbrev pub invariant-loop-label : goal.invariant-loop-label
invariant-loop-label l = Climb l.values.entries l.ranks.entries l.uses.entries l.name l.found.items (λ n. get nat_cmp l.waiting n) l.floor

abbrev pub decreases-loop-label : goal.decreases-loop-label
decreases-loop-label l = l.stamp - l.floor
