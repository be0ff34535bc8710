-- No span so far has anything, so the first of those that are left is that of all.
use Rattle.std.proofs.Common.{◌≡◌, drop}
use Rattle.asa_pools.specs.Pools.{first_of, span_choice}
use Rattle.asa_pools.proofs.table.PortTable.pat_value.Given as goal

abbrev pub invariant-loop-span : goal.invariant-loop-span
invariant-loop-span g l = first_of (span_choice l.self (g.R.Reserved.keeps l.reserved) l.flow) (drop l.span-index l.spans)
    ≡ first_of (span_choice l.self (g.R.Reserved.keeps l.reserved) l.flow) l.spans
