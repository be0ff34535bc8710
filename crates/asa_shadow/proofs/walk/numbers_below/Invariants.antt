use Rattle.std.proofs.Common.{◌≡◌, ◌++◌, drop, filter, nat_le}
use Rattle.asa_shadow.specs.Regions.{span_in}
use Rattle.asa_shadow.specs.Walks.{region_at}
use Rattle.asa_shadow.proofs.walk.numbers_below.Given as goal

abbrev pub invariant-loop-number : goal.invariant-loop-number
invariant-loop-number l = l.below ++ filter (λ n. nat_le (span_in (region_at l.boxes n) l.cut.dim).low l.cut.at) (drop l.number-index l.numbers)
    ≡ filter (λ n. nat_le (span_in (region_at l.boxes n) l.cut.dim).low l.cut.at) l.numbers
