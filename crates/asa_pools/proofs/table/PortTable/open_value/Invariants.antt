-- No range so far has an open address, so the first of those that are left is that of all.
use Rattle.std.proofs.Common.{◌≡◌, drop}
use Rattle.asa_pools.specs.Pools.{first_of, open_address}
use Rattle.asa_pools.proofs.table.PortTable.open_value.Given as goal

abbrev pub invariant-loop-range : goal.invariant-loop-range
invariant-loop-range l = first_of (open_address l.self) (drop l.range-index l.ranges) ≡ first_of (open_address l.self) l.ranges
