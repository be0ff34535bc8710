use Rattle.std.proofs.Common.{rules, refl}
use Rattle.asa_shadow.proofs.WalkLaws.{steps_cut}
use Rattle.asa_shadow.proofs.walk.Walk.take_cut.Goals as goal

pub returns : goal.returns
returns c =
    steps_cut c.args.boxes.now c.args.part.now c.in_ok-low.low c.in_ok-high.high c.args.number c.args.cut c.args.self.now _ c.requires.first c.requires.cut
    c.in_ok-low.ensures c.in_ok-high.ensures (search rules) (search rules) refl
