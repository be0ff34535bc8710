use Rattle.std.proofs.Common.{◌≡◌, ◌++◌, drop, filter, nat_lt}
use Rattle.asa_shadow.specs.Regions.{span_in}
use Rattle.asa_shadow.specs.Walks.{region_at}
use Rattle.asa_shadow.proofs.walk.numbers_above.Given as goal

abbrev pub invariant-loop-number : goal.invariant-loop-number
invariant-loop-number l = l.above ++ filter (λ n. nat_lt l.cut.at (span_in (region_at l.boxes n) l.cut.dim).high) (drop l.number-index l.numbers)
    ≡ filter (λ n. nat_lt l.cut.at (span_in (region_at l.boxes n) l.cut.dim).high) l.numbers
