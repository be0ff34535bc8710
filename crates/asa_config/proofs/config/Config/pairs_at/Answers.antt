use Rattle.std.proofs.Common.{get_or, ap, ◌∙◌}
use Rattle.std.proofs.lemmas.Result.{IfOk-weaker}
use Rattle.asa_acl_boxes.specs.Pairs.{line_pairs}
use Rattle.asa_config.specs.Names.{meanings_of}
use Rattle.asa_config.proofs.TakenLaws.{pairs_there}
use Rattle.asa_config.proofs.config.Config.pairs_at.Goals as goal

pub returns : goal.returns
returns c =
    IfOk-weaker c.pairs_of.result _ _ (λ n h. pairs_there (meanings_of c.args.self.now) c.args.acl.now.lines c.args.place n c.index-lines-place.result c.requires
    (h ∙ ap (line_pairs (meanings_of c.args.self.now)) (c.line-line.ensures ∙ c.index-lines-place.is ∙ ap (λ ls. get_or ls c.args.place c.index-lines-place.result) c.lines.ensures.value)))
    c.pairs_of.ensures.value
