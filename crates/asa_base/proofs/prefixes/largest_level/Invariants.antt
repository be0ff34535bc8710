use Rattle.std.proofs.Common.{◌≡◌, true}
use Rattle.asa_base.specs.Prefixes.{block_fits}
use Rattle.asa_base.proofs.prefixes.largest_level.Given as goal

abbrev pub invariant-loop-level : goal.invariant-loop-level
invariant-loop-level l = block_fits l.level l.at l.end ≡ true
