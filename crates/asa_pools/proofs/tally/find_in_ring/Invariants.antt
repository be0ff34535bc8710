-- The place is in the ring, and all places of it that are wanted are at or below it.
use Rattle.std.proofs.Common.{◌≡◌, ◌≤◌, ℕ, ◌<◌, true, cond, nat_lt}
use Rattle.asa_rings.specs.Rings.{In, Present, bucket, stamp}
use Rattle.asa_pools.specs.Keys.{passes}
use Rattle.asa_pools.specs.Tally.{row_at}
use Rattle.asa_pools.proofs.tally.find_in_ring.Given as goal

abbrev pub invariant-loop-at : goal.invariant-loop-at
invariant-loop-at l = record {
  there : Present l.ring l.at;
  home : bucket l.ring l.at ≡ l.bucket;
  left : (q : ℕ) → In l.ring l.bucket q → passes l.wanted (row_at l.rows q).key ≡ true → (l.at < l.ring.places) × (stamp l.ring q ≤ stamp l.ring l.at);
}

abbrev pub decreases-loop-at : goal.decreases-loop-at
decreases-loop-at l = cond (nat_lt l.at l.ring.places) (stamp l.ring l.at) 0
