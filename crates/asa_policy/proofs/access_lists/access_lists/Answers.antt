-- One more list stands for the next of the configuration, if that is bound somewhere.
use Rattle.std.proofs.Common.{arith}
use Rattle.asa_config.specs.Names.{meanings_of}
use Rattle.asa_config.specs.Settings.{has_name}
use Rattle.asa_policy.specs.Access.{covering_under, match_in}
use Rattle.asa_policy.specs.AccessLists.{is_bound, is_bound_at}
use Rattle.asa_policy.proofs.PairLaws.{pairs_of_one, one_more}
use Rattle.asa_policy.proofs.access_lists.access_lists.Goals as goal

pub push_bound-requires : goal.push_bound-requires
push_bound-requires c =
    let config = c.args.config.now in
    omega (arith, pairs_of_one (meanings_of config) config.lists c.loop-n.n _ c.nth_list-list.ensures, c.pair_count-pairs.ensures.value, c.pair_count-pairs.ensures.few)

pub loop-n-preserved : goal.loop-n-preserved
loop-n-preserved c =
    let config = c.args.config.now in
    record {
      first = λ p. one_more (is_bound config) (match_in config p) config.lists c.loop-n.n _ _ _ c.nth_list-list.ensures (c.in_ok-push_bound.ensures.first p) (c.loop-n.invariant.first p);
      sides = λ side. one_more (is_bound config) (λ x. is_bound_at config.bound x.name side) config.lists c.loop-n.n _ _ _ c.nth_list-list.ensures (c.in_ok-push_bound.ensures.sides side) (c.loop-n.invariant.sides side);
      named = λ name. one_more (is_bound config) (has_name name) config.lists c.loop-n.n _ _ _ c.nth_list-list.ensures (c.in_ok-push_bound.ensures.named name) (c.loop-n.invariant.named name);
      covering = λ p. one_more (is_bound config) (covering_under config p) config.lists c.loop-n.n _ _ _ c.nth_list-list.ensures (c.in_ok-push_bound.ensures.covering p) (c.loop-n.invariant.covering p);
      most = omega (arith, c.in_ok-push_bound.ensures.most, c.loop-n.invariant.most);
    }
