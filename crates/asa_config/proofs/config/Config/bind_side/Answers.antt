use Rattle.std.proofs.Common.{◌≡◌, ◌<◌, true, length, is_some, subst, sym}
use Rattle.asa_config.specs.Settings.{list_named}
use Rattle.asa_config.proofs.BindingLaws.{kept_bound}
use Rattle.asa_config.proofs.config.Config.bind_side.Goals as goal

pub invariant_of-self : goal.invariant_of-self
invariant_of-self c =
    kept_bound c.put_side.result c.self.inside.objects c.self.inside.net c.self.inside.table c.self.inside.pairs c.self.inside.bound.items c.put_side.new.bound.items c.self.inside.global c.args.side c.args.list c.self.invariant
    (subst (λ s. c.args.side.0 < length s.net.ifaces) (sym c.self.view_is) c.requires.within)
    (subst (λ s. is_some (list_named s c.args.list) ≡ true) (sym c.self.view_is) c.requires.defined) c.put_side.ensures.ok c.put_side.ensures.err
