use Rattle.std.proofs.Common.{◌≡◌, ◌≤◌, length, subst, sym}
use Rattle.asa_config.specs.Names.{pair_count}
use Rattle.asa_config.specs.Net.{with_net}
use Rattle.asa_config.proofs.NetLaws.{kept_more}
use Rattle.asa_config.proofs.config.Config.put_net.Goals as goal

pub invariant_of-self : goal.invariant_of-self
invariant_of-self c =
    kept_more c.self.inside.objects c.self.inside.net c.args.net c.self.inside.table c.self.inside.pairs c.args.total c.self.inside.bound.items c.self.inside.global c.self.invariant
    (subst (λ s. length s.net.ifaces ≤ length c.args.net.ifaces) (sym c.self.view_is) c.requires.more)
    (subst (λ s. c.args.total ≡ pair_count (with_net s c.args.net)) (sym c.self.view_is) c.requires.total) c.requires.few
