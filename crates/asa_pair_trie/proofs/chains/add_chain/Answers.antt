use Rattle.std.proofs.Common.{length, ap, subst, arith}
use Rattle.std.proofs.lemmas.List.Sorted.{length_permutation}
use Rattle.asa_pair_trie.specs.Growth.{ChainGrown}
use Rattle.asa_pair_trie.proofs.SlotLaws.{chain_ordered}
use Rattle.asa_pair_trie.proofs.chains.add_chain.Goals as goal

pub add_rising-requires-clause-room : goal.add_rising-requires-clause-room
add_rising-requires-clause-room c = omega (arith, ap length c.deref.ensures.value, length_permutation c.args.entries.items c.by_rank.new.entries.items c.in_ok-by_rank.ensures.same, c.requires)

pub returns : goal.returns
returns c = chain_ordered c.args.chains.now c.add_rising.new.chains c.in_ok-at.at c.args.entries.items c.by_rank.new.entries.items c.in_ok-by_rank.ensures.same
    (subst (λ es. ChainGrown c.args.chains.now c.add_rising.new.chains c.in_ok-at.at es) c.deref.ensures.value c.in_ok-at.ensures)
