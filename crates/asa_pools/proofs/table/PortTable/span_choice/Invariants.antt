-- No address below has anything, so the first of those that are left is that of all.
use Rattle.std.proofs.Common.{◌≡◌, ◌+◌, ◌-◌}
use Rattle.asa_pools.specs.Pools.{choice, first_of, numbers}
use Rattle.asa_pools.proofs.table.PortTable.span_choice.Given as goal

abbrev pub invariant-loop-at : goal.invariant-loop-at
invariant-loop-at g l = first_of (choice l.self (g.R.Reserved.keeps l.reserved) l.flow l.span) (numbers l.at l.end)
    ≡ first_of (choice l.self (g.R.Reserved.keeps l.reserved) l.flow l.span) (numbers l.span.range.first.0 l.span.range.last.0)

abbrev pub decreases-loop-at : goal.decreases-loop-at
decreases-loop-at g l = l.end + 1 - l.at
