use Rattle.std.proofs.Common.{◌≡◌, ◌++◌, drop, filter}
use Rattle.asa_shadow.specs.Regions.{meets}
use Rattle.asa_shadow.specs.Walks.{region_at}
use Rattle.asa_shadow.proofs.walk.numbers_meeting.Given as goal

abbrev pub invariant-loop-number : goal.invariant-loop-number
invariant-loop-number l = l.met ++ filter (λ n. meets (region_at l.boxes n) l.region) (drop l.number-index l.numbers) ≡ filter (λ n. meets (region_at l.boxes n) l.region) l.numbers
