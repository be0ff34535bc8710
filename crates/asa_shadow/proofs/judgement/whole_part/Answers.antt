use Rattle.asa_shadow.proofs.WalkLaws.{met_tree}
use Rattle.asa_shadow.proofs.judgement.whole_part.Goals as goal

pub returns : goal.returns
returns c = rw c.in_ok-earlier.ensures (met_tree c.args.boxes.now c.args.earlier.now c.args.region.now)
