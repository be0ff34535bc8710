use Rattle.std.proofs.Common.{◌≡◌, ◌+◌, ◌≤◌, length, drop, Some}
use Rattle.std.specs.Prelude.{slice_get}
use Rattle.asa_trie.specs.Tries.{node_at, Later}
use Rattle.asa_pair_trie.specs.declared.arenas.Slot.{Slot}
use Rattle.asa_pair_trie.specs.Growth.{Chained, Added}
use Rattle.asa_pair_trie.proofs.chains.add_rising.Given as goal

abbrev pub invariant-loop-k : goal.invariant-loop-k
invariant-loop-k l = record {
  within : l.k ≤ length l.entries;
  later : Later l.initial.chains l.chains;
  chained : Chained l.chains l.at (drop l.k l.entries);
  added : Added l.initial.chains l.chains (drop l.k l.entries);
  count : length l.chains + l.k ≡ length l.initial.chains + length l.entries;
  top : (t : Slot) → node_at l.chains l.at ≡ Some t → slice_get l.entries l.k ≡ Some t.entry;
}

abbrev pub decreases-loop-k : goal.decreases-loop-k
decreases-loop-k l = l.k
