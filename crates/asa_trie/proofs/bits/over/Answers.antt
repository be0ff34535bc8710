use Rattle.std.proofs.Common.{arith}
use Rattle.asa_trie.proofs.BlockLaws.{block_is_prefix}
use Rattle.asa_trie.proofs.bits.over.Goals as goal

pub invariant_of-result : goal.invariant_of-result
invariant_of-result c = block_is_prefix c.args.a.0 c.args.level _ (omega arith) c.requires c.shifted.ensures
