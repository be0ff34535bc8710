use Rattle.std.proofs.Common.{◌≡◌, ◌+◌, ◌*◌, ◌≤◌, drop}
use Rattle.std.specs.List.{All}
use Rattle.asa_nat_index.specs.Matches.{IsNarrow, pairs_of}
use Rattle.asa_nat_index.proofs.tests.index_of.Given as goal

abbrev pub invariant-loop-case : goal.invariant-loop-case
invariant-loop-case l = (All IsNarrow (drop l.case-index l.cases) → All IsNarrow l.cases)
    × (pairs_of l.cases ≤ 16 * l.case-index + pairs_of (drop l.case-index l.cases))
