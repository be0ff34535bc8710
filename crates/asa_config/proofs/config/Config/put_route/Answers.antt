use Rattle.std.proofs.Common.{subst, sym}
use Rattle.asa_config_edit.specs.Refusals.{Makes}
use Rattle.asa_config.specs.contracts.config.Config.{the_view}
use Rattle.asa_config.specs.Net.{route_put, with_net}
use Rattle.asa_ifaces.specs.Routes.{route_added}
use Rattle.asa_config.proofs.NetLaws.{kept_net, route_keeps, net_told}
use Rattle.asa_config.proofs.config.Config.put_route.Goals as goal

pub invariant_of-self : goal.invariant_of-self
invariant_of-self c =
    kept_net c.self.inside.objects c.self.inside.net c.put_route.new.self c.self.inside.table c.self.inside.pairs c.self.inside.bound.items c.self.inside.global
    (route_keeps c.put_route.result c.self.inside.net c.put_route.new.self c.args.route c.put_route.ensures) c.self.invariant

pub returns : goal.returns
unfolding route_put
returns c =
    subst (λ s. Makes c.told.result s (with_net (the_view c.self.inside) c.put_route.new.self) (route_put s c.args.route)) c.self.view_is
    (subst (λ r. Makes r (the_view c.self.inside) (with_net (the_view c.self.inside) c.put_route.new.self) (route_put (the_view c.self.inside) c.args.route)) (sym c.told.ensures)
    (net_told c.put_route.result (the_view c.self.inside) c.put_route.new.self (route_added c.self.inside.net c.args.route) c.put_route.ensures))
