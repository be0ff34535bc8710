use Rattle.std.proofs.Common.{None, refl}
use Rattle.asa_config.proofs.BindingLaws.{kept_global}
use Rattle.asa_config.proofs.config.Config.unbind_global.Goals as goal

pub invariant_of-self : goal.invariant_of-self
invariant_of-self c = kept_global c.self.inside.objects c.self.inside.net c.self.inside.table c.self.inside.pairs c.self.inside.bound.items c.self.inside.global None c.self.invariant refl
