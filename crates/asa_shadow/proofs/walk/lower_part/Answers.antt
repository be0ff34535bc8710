use Rattle.asa_shadow.proofs.WalkLaws.{lower_tree}
use Rattle.asa_shadow.proofs.walk.lower_part.Goals as goal

pub returns : goal.returns
returns c = rw (c.lower.ensures, c.in_ok-earlier.ensures, c.as_slice.ensures) (lower_tree c.args.boxes.now c.args.part.now.earlier c.args.part.now.region c.args.cut c.requires)
