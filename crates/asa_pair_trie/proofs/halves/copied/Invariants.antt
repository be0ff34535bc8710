use Rattle.std.proofs.Common.{◌≡◌, ◌^◌, ◌<◌, take}
use Rattle.std.specs.List.{All}
use Rattle.asa_pair_trie.specs.Growth.{prefix_by}
use Rattle.asa_pair_trie.specs.declared.entries.Side.TheVariants.{Source, Dest}
use Rattle.asa_pair_trie.proofs.halves.copied.Given as goal

abbrev pub invariant-loop-entry : goal.invariant-loop-entry
invariant-loop-entry l = record {
  same : l.all.items ≡ take l.entry-index l.entries;
  sources : All (λ e. (prefix_by Source e).addr.0 < 2 ^ 32) l.all.items;
  dests : All (λ e. (prefix_by Dest e).addr.0 < 2 ^ 32) l.all.items;
}
