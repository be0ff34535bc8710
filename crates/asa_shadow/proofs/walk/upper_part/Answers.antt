use Rattle.asa_shadow.proofs.WalkLaws.{upper_tree}
use Rattle.asa_shadow.proofs.walk.upper_part.Goals as goal

pub returns : goal.returns
returns c = rw (c.upper.ensures, c.in_ok-earlier.ensures, c.as_slice.ensures) (upper_tree c.args.boxes.now c.args.part.now.earlier c.args.part.now.region c.args.cut c.requires)
