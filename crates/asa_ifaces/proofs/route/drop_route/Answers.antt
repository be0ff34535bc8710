use Rattle.std.proofs.Common.{rules, not}
use Rattle.std.proofs.lemmas.Fn.{filter_same}
use Rattle.asa_ifaces.specs.Routes.{same_route}
use Rattle.asa_ifaces.proofs.route.drop_route.Goals as goal

pub returns : goal.returns
returns c = filter_same _ (λ q. not (same_route q c.args.route.now)) _ (λ x b f' h. search rules) _ _ c.retain.ensures.filtered
