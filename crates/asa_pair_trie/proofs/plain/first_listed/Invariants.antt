use Rattle.std.proofs.Common.{◌≡◌, drop, filter}
use Rattle.asa_pair_trie.specs.Pairs.{holds, lesser, least_rank}
use Rattle.asa_pair_trie.proofs.plain.first_listed.Given as goal

abbrev pub invariant-loop-entry : goal.invariant-loop-entry
invariant-loop-entry l = lesser l.best (least_rank (filter (holds l.p) (drop l.entry-index l.entries))) ≡ least_rank (filter (holds l.p) l.entries)
