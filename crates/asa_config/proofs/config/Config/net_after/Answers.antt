use Rattle.std.proofs.Common.{◌≤◌, length, subst}
use Rattle.asa_config.proofs.NetLaws.{grows}
use Rattle.asa_config.proofs.config.Config.net_after.Goals as goal

pub returns-clause-more : goal.returns-clause-more
returns-clause-more c =
    subst (λ s. length s.net.ifaces ≤ length c.interface.new.self.ifaces) c.self.view_is
    (subst (λ i. length i.ifaces ≤ length c.interface.new.self.ifaces) c.in_ok-net.ensures (grows c.interface.result c.in_ok-net.net c.interface.new.self c.args.block.now c.interface.ensures))
