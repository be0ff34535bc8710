-- The places so far, each at its own index.
use Rattle.std.proofs.Common.{◌≡◌, ◌≤◌, ℕ, ◌<◌, length, slice_index, vec_capacity}
use Rattle.asa_conn_table.proofs.table.free_places.Given as goal

abbrev pub invariant-loop-x : goal.invariant-loop-x
invariant-loop-x l = record {
  room : l.capacity ≤ vec_capacity l.places;
  long : length l.places.items ≡ l.x;
  each : (k : ℕ) → k < l.x → slice_index l.places.items k ≡ k;
}
