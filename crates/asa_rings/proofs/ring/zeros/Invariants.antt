-- All numbers so far are 0.
use Rattle.std.proofs.Common.{◌≡◌, ℕ, length, slice_index}
use Rattle.asa_rings.proofs.ring.zeros.Given as goal

abbrev pub invariant-loop-x : goal.invariant-loop-x
invariant-loop-x l = record {
  long : length l.list.items ≡ l.x;
  zero : (k : ℕ) → slice_index l.list.items k ≡ 0;
}
