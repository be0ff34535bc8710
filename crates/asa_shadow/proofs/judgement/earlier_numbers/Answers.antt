use Rattle.std.proofs.Common.{ap, ◌∙◌, ◌++◌, ◌+◌, drop}
use Rattle.asa_shadow.specs.CutTrees.{earlier_from}
use Rattle.asa_shadow.specs.Walks.{named}
use Rattle.asa_shadow.proofs.WalkLaws.{earlier_more}
use Rattle.asa_shadow.proofs.judgement.earlier_numbers.Goals as goal

pub loop-i-preserved : goal.loop-i-preserved
loop-i-preserved c =
    ap (λ ns. named c.args.boxes.now ns ++ earlier_from c.args.line (c.loop-i.i + 1 + 1) (drop (c.loop-i.i + 1) c.args.boxes.now)) c.in_ok-push_earlier.ensures
    ∙ earlier_more c.args.boxes.now c.args.line c.loop-i.numbers c.loop-i.i c.index-boxes-i.result c.loop-i-test.true c.index-boxes-i.is
    ∙ c.loop-i.invariant
