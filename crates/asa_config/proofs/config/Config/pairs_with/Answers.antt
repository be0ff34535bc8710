use Rattle.std.proofs.Common.{◌+◌, sym, ap, ◌∙◌}
use Rattle.asa_acl_boxes.specs.Pairs.{line_pairs}
use Rattle.asa_acl_table.proofs.WeightLaws.{weight_put}
use Rattle.asa_config.specs.Names.{meanings_of, pair_count}
use Rattle.asa_config.proofs.config.Config.pairs_with.Goals as goal

pub returns : goal.returns
returns c =
    ap (λ n. n + c.in_ok-added.added) (c.from.ensures ∙ c.pair_count.ensures.value)
    ∙ ap (λ n. pair_count c.args.self.now + n) c.in_ok-added.ensures.value
    ∙ sym (weight_put (line_pairs (meanings_of c.args.self.now)) c.args.self.now.lists c.args.new.now)
