-- No address below is open, so the first open one of those that are left is that of all.
use Rattle.std.proofs.Common.{◌≡◌, ◌+◌, ◌-◌, not}
use Rattle.std.specs.Prelude.{◌==◌}
use Rattle.std.specs.List.{find, list_any}
use Rattle.asa_pools.specs.Pools.{numbers}
use Rattle.asa_pools.proofs.table.PortTable.open_address.Given as goal

abbrev pub invariant-loop-at : goal.invariant-loop-at
invariant-loop-at l = find (λ n. not (list_any (λ b. n == b.addr.0) l.self.bound)) (numbers l.at l.end)
    ≡ find (λ n. not (list_any (λ b. n == b.addr.0) l.self.bound)) (numbers l.fn.range.first.0 l.fn.range.last.0)

abbrev pub decreases-loop-at : goal.decreases-loop-at
decreases-loop-at l = l.end + 1 - l.at
