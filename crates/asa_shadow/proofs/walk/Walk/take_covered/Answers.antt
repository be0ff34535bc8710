use Rattle.std.proofs.Common.{rules, refl}
use Rattle.asa_shadow.proofs.WalkLaws.{steps_covered}
use Rattle.asa_shadow.proofs.walk.Walk.take_covered.Goals as goal

pub returns : goal.returns
returns c = steps_covered c.args.boxes.now c.args.part.now c.args.number c.args.self.now _ c.requires.first c.requires.uncut refl (search rules) refl
