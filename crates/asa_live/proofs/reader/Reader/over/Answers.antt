use Rattle.std.proofs.Common.{refl, ap, ◌∙◌}
use Rattle.left_right.specs.Sides.{view}
use Rattle.asa_live.proofs.reader.Reader.over.Goals as goal

pub invariant_of-result : goal.invariant_of-result
invariant_of-result g c = (c.args.front, ap (λ s. view s.place) c.new.ensures.0 ∙ c.requires, refl)
