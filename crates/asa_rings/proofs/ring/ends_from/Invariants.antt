-- Each number so far is its own place less the base, from the places on.
use Rattle.std.proofs.Common.{◌≡◌, ℕ, ◌-◌, ◌<◌, ◌≤◌, length, slice_index}
use Rattle.asa_rings.proofs.ring.ends_from.Given as goal

abbrev pub invariant-loop-x : goal.invariant-loop-x
invariant-loop-x l = record {
  long : length l.list.items ≡ l.x;
  ends : (k : ℕ) → l.places ≤ k → k < l.x → slice_index l.list.items k ≡ k - l.base;
}
