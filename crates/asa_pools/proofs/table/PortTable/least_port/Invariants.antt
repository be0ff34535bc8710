-- No port below is free, so the least free one of those that are left is that of all.
use Rattle.std.proofs.Common.{◌≡◌, ◌+◌, ◌-◌}
use Rattle.std.specs.List.{find}
use Rattle.asa_pools.specs.Pools.{is_free, numbers}
use Rattle.asa_pools.proofs.table.PortTable.least_port.Given as goal

abbrev pub invariant-loop-at : goal.invariant-loop-at
invariant-loop-at g l = find (is_free l.self (g.R.Reserved.keeps l.reserved) l.flow l.extended l.addr) (numbers l.at l.end)
    ≡ find (is_free l.self (g.R.Reserved.keeps l.reserved) l.flow l.extended l.addr) (numbers l.first l.last)

abbrev pub decreases-loop-at : goal.decreases-loop-at
decreases-loop-at g l = l.end + 1 - l.at
