use Rattle.std.proofs.Common.{◌≡◌, true, subst, sym, ap}
use Rattle.asa_config.specs.contracts.config.Config.{the_view}
use Rattle.asa_ifaces.specs.Routes.{has_route}
use Rattle.asa_config.specs.Net.{route_gone, with_net}
use Rattle.asa_config.proofs.NetLaws.{kept_net, taken_answer}
use Rattle.asa_config.proofs.config.Config.take_route.Goals as goal

pub invariant_of-self : goal.invariant_of-self
invariant_of-self c =
    kept_net c.self.inside.objects c.self.inside.net c.remove_route-gone.new.self c.self.inside.table c.self.inside.pairs c.self.inside.bound.items c.self.inside.global
    (ap (λ n. n.ifaces) (taken_answer c.remove_route-gone.result c.self.inside.net c.remove_route-gone.new.self c.args.route.now
    (subst (λ s. has_route s.net.routes c.args.route.now ≡ true) (sym c.self.view_is) c.requires) c.remove_route-gone.ensures)) c.self.invariant

pub returns : goal.returns
returns c =
    subst (λ s. with_net (the_view c.self.inside) c.remove_route-gone.new.self ≡ route_gone s c.args.route.now) c.self.view_is
    (ap (with_net (the_view c.self.inside)) (taken_answer c.remove_route-gone.result c.self.inside.net c.remove_route-gone.new.self c.args.route.now
    (subst (λ s. has_route s.net.routes c.args.route.now ≡ true) (sym c.self.view_is) c.requires) c.remove_route-gone.ensures))
