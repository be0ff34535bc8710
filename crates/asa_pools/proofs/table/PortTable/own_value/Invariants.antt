-- No range so far has an address of the flow's own, so the first of those that are left is that of all.
use Rattle.std.proofs.Common.{◌≡◌, drop}
use Rattle.asa_pools.specs.Pools.{first_of, own_address}
use Rattle.asa_pools.proofs.table.PortTable.own_value.Given as goal

abbrev pub invariant-loop-range : goal.invariant-loop-range
invariant-loop-range l = first_of (own_address l.self l.flow) (drop l.range-index l.ranges) ≡ first_of (own_address l.self l.flow) l.ranges
