use Rattle.asa_config.proofs.BindingLaws.{kept_unbound}
use Rattle.asa_config.proofs.config.Config.unbind_side.Goals as goal

pub invariant_of-self : goal.invariant_of-self
invariant_of-self c =
    kept_unbound c.self.inside.objects c.self.inside.net c.self.inside.table c.self.inside.pairs c.self.inside.bound.items c.take_side.new.bound.items c.self.inside.global c.args.side c.self.invariant c.take_side.ensures
