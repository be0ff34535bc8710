use Rattle.std.proofs.Common.{◌≡◌, ◌+◌, ◌-◌, ◌*◌, ◌≤◌, length}
use Rattle.asa_trie.specs.Tries.{walk}
use Rattle.asa_pair_trie.specs.Pairs.{lesser}
use Rattle.asa_pair_trie.specs.Lookup.{seeing, outer_links, outer_value}
use Rattle.asa_pair_trie.proofs.lookup.first_of_outer.Given as goal

abbrev pub invariant-loop : goal.invariant-loop
invariant-loop l = record {
  value : lesser l.best (walk seeing outer_links (outer_value l.slots l.nodes l.p) l.outer (33 - l.counter) l.at l.p.src.0).rank
      ≡ (walk seeing outer_links (outer_value l.slots l.nodes l.p) l.outer 33 (length l.outer) l.p.src.0).rank;
  reads : l.c + (walk seeing outer_links (outer_value l.slots l.nodes l.p) l.outer (33 - l.counter) l.at l.p.src.0).read
      ≤ l.initial.c + 34 * l.counter + (walk seeing outer_links (outer_value l.slots l.nodes l.p) l.outer 33 (length l.outer) l.p.src.0).read;
}
