-- The first address of the flow's own below the best so far, or the best itself, is that of all.
use Rattle.std.proofs.Common.{◌≡◌, ◌≤◌, ◌-◌}
use Rattle.std.specs.List.{find, range_with_len}
use Rattle.std.specs.Option.{option_or}
use Rattle.asa_pools.specs.Pools.{is_own}
use Rattle.asa_pools.proofs.table.PortTable.own_in.Given as goal

abbrev pub invariant-loop-end : goal.invariant-loop-end
invariant-loop-end l = record {
  low : l.first ≤ l.end;
  high : l.end ≤ l.stop;
  same : option_or (find (is_own l.self l.flow) (range_with_len l.first (l.end - l.first))) l.best
      ≡ find (is_own l.self l.flow) (range_with_len l.first (l.stop - l.first));
}

abbrev pub decreases-loop-end : goal.decreases-loop-end
decreases-loop-end l = l.end
