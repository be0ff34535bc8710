use Rattle.std.proofs.Common.{◌≡◌, ◌+◌, ◌≤◌}
use Rattle.asa_pair_trie.specs.Pairs.{lesser}
use Rattle.asa_pair_trie.specs.Lookup.{chain}
use Rattle.asa_pair_trie.proofs.lookup.first_of_chain.Given as goal

abbrev pub invariant-loop-slot : goal.invariant-loop-slot
invariant-loop-slot l = record {
  value : lesser l.best (chain l.slots l.p l.at l.at).rank ≡ lesser l.best (chain l.slots l.p l.first l.first).rank;
  reads : l.c + (chain l.slots l.p l.at l.at).read ≤ l.initial.c + (chain l.slots l.p l.first l.first).read;
}

abbrev pub decreases-loop-slot : goal.decreases-loop-slot
decreases-loop-slot l = l.at
