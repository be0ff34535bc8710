-- All slots so far are free.
use Rattle.std.proofs.Common.{◌≡◌, ℕ, length, None}
use Rattle.asa_conn_table.specs.Slots.{slot}
use Rattle.asa_conn_table.proofs.shelf.free_slots.Given as goal

abbrev pub invariant-loop-x : goal.invariant-loop-x
invariant-loop-x l = record {
  long : length l.slots.items ≡ l.x;
  empty : (p : ℕ) → slot l.slots.items p ≡ None;
}
