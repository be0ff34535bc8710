-- The steps of a look-up's loops: the best rank so far, and what is read.
use Rattle.std.proofs.Common.{◌≡◌, ℕ, suc, ◌+◌, ◌-◌, ◌<◌, List, Option, Some, None, sym, ap, ◌∙◌, arith}
use Rattle.asa_trie.specs.Tries.{Links, child, covering, walk}
use Rattle.asa_trie.proofs.TrieLaws.{walk_done, walk_end, walk_next}
use Rattle.asa_pair_trie.specs.Pairs.{lesser}
use Rattle.asa_pair_trie.specs.Lookup.{Seen, both, seeing}
use Rattle.asa_pair_trie.proofs.RankLaws.{lesser_assoc, lesser_none}

-- a walk that ends adds nothing
pub done : {N : Type 0} (l : Links N) (w : N → Seen) (nodes : List N) (fuel at a : ℕ) (best : Option ℕ) → covering l nodes at a ≡ None
    → best ≡ lesser best (walk seeing l w nodes fuel at a).rank
done l w nodes fuel at a best e = sym (lesser_none best) ∙ ap (λ x. lesser best x.rank) (sym (walk_done seeing l w nodes fuel at a e))

pub spent : {N : Type 0} (l : Links N) (w : N → Seen) (nodes : List N) (fuel at a : ℕ) (best : Option ℕ) → fuel ≡ 0
    → best ≡ lesser best (walk seeing l w nodes fuel at a).rank
spent l w nodes fuel at a best e =
    sym (lesser_none best) ∙ ap (λ x. lesser best x.rank) (sym (ap (λ n. walk seeing l w nodes n at a) e ∙ walk_end seeing l w nodes at a))

-- what one step of a walk adds to the rank and to what is read
pub record IsNext (best : Option ℕ) (here rest all : Seen) : Type 0 where
  pub rank : lesser (lesser best here.rank) rest.rank ≡ lesser best all.rank
  pub read : here.read + rest.read ≡ all.read

pub next : {N : Type 0} (l : Links N) (w : N → Seen) (nodes : List N) (counter at a link : ℕ) (n : N) (best : Option ℕ) → counter < 33
    → covering l nodes at a ≡ Some n → link ≡ child l n a
    → IsNext best (w n) (walk seeing l w nodes (33 - (counter + 1)) link a) (walk seeing l w nodes (33 - counter) at a)
next l w nodes counter at a link n best less e el =
    let left : suc (33 - (counter + 1)) ≡ 33 - counter = omega arith in
    let step : both (w n) (walk seeing l w nodes (33 - (counter + 1)) link a) ≡ walk seeing l w nodes (33 - counter) at a =
    ap (λ k. both (w n) (walk seeing l w nodes (33 - (counter + 1)) k a)) el
    ∙ sym (walk_next seeing l w nodes (33 - (counter + 1)) at a n e)
    ∙ ap (λ f. walk seeing l w nodes f at a) left in
    record {
      rank = lesser_assoc best (w n).rank (walk seeing l w nodes (33 - (counter + 1)) link a).rank ∙ ap (λ x. lesser best x.rank) step;
      read = ap (λ x. x.read) step;
    }
