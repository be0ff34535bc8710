use Rattle.std.proofs.Common.{◌≡◌, ◌+◌, ◌-◌, length}
use Rattle.asa_base.specs.Prefixes.{prefixes_between, prefixes_of_span}
use Rattle.asa_base.proofs.prefixes.prefix_count.Given as goal

abbrev pub invariant-loop-at : goal.invariant-loop-at
invariant-loop-at l = l.count + length (prefixes_between l.at l.end) ≡ length (prefixes_of_span l.fn.range)

abbrev pub decreases-loop-at : goal.decreases-loop-at
decreases-loop-at l = l.end - l.at
