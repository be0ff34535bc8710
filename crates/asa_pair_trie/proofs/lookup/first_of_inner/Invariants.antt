use Rattle.std.proofs.Common.{◌≡◌, ◌+◌, ◌-◌, ◌≤◌}
use Rattle.asa_trie.specs.Tries.{walk}
use Rattle.asa_pair_trie.specs.Pairs.{lesser}
use Rattle.asa_pair_trie.specs.Lookup.{seeing, inner_links, inner_value, inner_found}
use Rattle.asa_pair_trie.proofs.lookup.first_of_inner.Given as goal

abbrev pub invariant-loop : goal.invariant-loop
invariant-loop l = record {
  value : lesser l.best (walk seeing inner_links (inner_value l.slots l.p) l.nodes (33 - l.counter) l.at l.p.dst.0).rank
      ≡ lesser l.initial.best (inner_found l.slots l.nodes l.p l.root).rank;
  reads : l.c + (walk seeing inner_links (inner_value l.slots l.p) l.nodes (33 - l.counter) l.at l.p.dst.0).read
      ≤ l.initial.c + l.counter + (inner_found l.slots l.nodes l.p l.root).read;
}
