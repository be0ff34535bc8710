use Rattle.asa_ifaces.proofs.RouteLaws.{interface_within}
use Rattle.asa_ifaces.proofs.route.read_route.Goals as goal

pub returns-clause-leaves : goal.returns-clause-leaves
returns-clause-leaves c = interface_within c.args.ifaces.now _ _ _ c.in_ok-ifc.ensures
