-- One trie more says what its entries say.
use Rattle.std.proofs.Common.{◌++◌, ◌∷◌, [], map, ap, ◌∙◌}
use Rattle.asa_nat_index.specs.Index.{first_in, covering_in}
use Rattle.asa_pair_trie.proofs.RankLaws.{first_permutation, covering_permutation}
use Rattle.asa_nat_index.proofs.ShelfLaws.{map_push}
use Rattle.asa_nat_index.proofs.tries.push_trie.Goals as goal

pub returns-clause-first : goal.returns-clause-first
returns-clause-first c p =
    ap (map (first_in p)) c.in_ok-push.ensures.items ∙ map_push (first_in p) c.args.tries.now.items c.in_ok-build.field-0
    ∙ ap (λ r. map (first_in p) c.args.tries.now.items ++ r ∷ []) (first_permutation c.args.entries.now c.in_ok-build.field-0 c.in_ok-build.ensures p)

pub returns-clause-covering : goal.returns-clause-covering
returns-clause-covering c p =
    ap (map (covering_in p)) c.in_ok-push.ensures.items ∙ map_push (covering_in p) c.args.tries.now.items c.in_ok-build.field-0
    ∙ ap (λ r. map (covering_in p) c.args.tries.now.items ++ r ∷ []) (covering_permutation c.args.entries.now c.in_ok-build.field-0 c.in_ok-build.ensures p)
