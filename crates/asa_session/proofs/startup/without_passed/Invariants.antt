-- The blocks that are kept so far, then those that are left.
use Rattle.std.proofs.Common.{◌≡◌, ◌+◌, ◌++◌, ◌≤◌, length, count_by, not}
use Rattle.std.specs.Vec.Iter.{into_iter_items}
use Rattle.asa_session.specs.Startup.{is_kept, kept_of, passed_count}
use Rattle.asa_session.proofs.startup.without_passed.Given as goal

abbrev pub invariant-loop-block : goal.invariant-loop-block
invariant-loop-block l = record {
  kept : l.kept ++ kept_of (into_iter_items l.block-iterator) ≡ kept_of l.fn.blocks;
  passed : l.passed + passed_count (into_iter_items l.block-iterator) ≡ passed_count l.fn.blocks;
  few : l.passed + length (into_iter_items l.block-iterator) ≤ length l.fn.blocks;
}
