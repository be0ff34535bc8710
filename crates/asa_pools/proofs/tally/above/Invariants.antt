-- `below` is the next below the place, which is the end or stands above the mark.
use Rattle.std.proofs.Common.{◌≡◌, ℕ, ◌<◌, cond, nat_lt}
use Rattle.asa_rings.specs.Rings.{IsNextOlder, Present, bucket, stamp}
use Rattle.asa_pools.proofs.tally.above.Given as goal

abbrev pub invariant-loop-below : goal.invariant-loop-below
invariant-loop-below l = record {
  there : Present l.ring l.at;
  home : bucket l.ring l.at ≡ l.bucket;
  lower : l.at < l.ring.places → l.mark < stamp l.ring l.at;
  next : IsNextOlder l.ring l.bucket l.at l.below;
}

abbrev pub decreases-loop-below : goal.decreases-loop-below
decreases-loop-below l = cond (nat_lt l.below l.ring.places) (stamp l.ring l.below) 0
