-- The networks so far, then the blocks that are left.
use Rattle.std.proofs.Common.{◌≡◌, ◌++◌, drop}
use Rattle.asa_nat_index.proofs.entries.push_blocks.Given as goal

abbrev pub invariant-loop-block : goal.invariant-loop-block
invariant-loop-block l = l.networks ++ drop l.block-index l.blocks ≡ l.initial.networks ++ l.blocks
