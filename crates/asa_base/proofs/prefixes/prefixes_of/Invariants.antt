use Rattle.std.proofs.Common.{◌≡◌, ◌-◌, ◌++◌}
use Rattle.asa_base.specs.Prefixes.{prefixes_between, prefixes_of_span}
use Rattle.asa_base.proofs.prefixes.prefixes_of.Given as goal

abbrev pub invariant-loop-at : goal.invariant-loop-at
invariant-loop-at l = l.out.items ++ prefixes_between l.at l.end ≡ prefixes_of_span l.fn.range

abbrev pub decreases-loop-at : goal.decreases-loop-at
decreases-loop-at l = l.end - l.at
