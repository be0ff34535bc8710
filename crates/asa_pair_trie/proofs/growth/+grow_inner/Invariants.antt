use Rattle.asa_pair_trie.proofs.growth.+grow_inner.Given as goal

abbrev pub decreases-grow_inner : goal.decreases-grow_inner
decreases-grow_inner l = l.levels
