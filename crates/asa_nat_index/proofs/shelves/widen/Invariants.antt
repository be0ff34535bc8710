-- Empty lists change nothing.
use Rattle.std.proofs.Common.{◌≡◌, ℕ, ◌+◌, ◌-◌, length}
use Rattle.asa_nat_index.specs.Index.{shelf}
use Rattle.asa_nat_index.proofs.shelves.widen.Given as goal

abbrev pub invariant-loop-alloc : goal.invariant-loop-alloc
invariant-loop-alloc l = (k : ℕ) → shelf l.lists.items k ≡ shelf l.initial.lists.items k

abbrev pub decreases-loop-alloc : goal.decreases-loop-alloc
decreases-loop-alloc l = l.key + 1 - length l.lists.items
