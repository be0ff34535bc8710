use Rattle.asa_pair_trie.proofs.growth.+grow_outer.Given as goal

abbrev pub decreases-grow_outer : goal.decreases-grow_outer
decreases-grow_outer l = l.levels
