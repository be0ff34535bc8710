use Rattle.std.proofs.Common.{◌≡◌, true, is_some, Some, subst, sym}
use Rattle.asa_config.specs.Settings.{list_named}
use Rattle.asa_config.proofs.BindingLaws.{kept_global}
use Rattle.asa_config.proofs.config.Config.bind_global.Goals as goal

pub invariant_of-self : goal.invariant_of-self
invariant_of-self c =
    kept_global c.self.inside.objects c.self.inside.net c.self.inside.table c.self.inside.pairs c.self.inside.bound.items c.self.inside.global (Some c.args.list) c.self.invariant
    (subst (λ s. is_some (list_named s c.args.list) ≡ true) (sym c.self.view_is) c.requires)
