-- what was printed is read back
use Rattle.asa_print_net.proofs.RouteLaws.{route_back}
use Rattle.asa_print_net.proofs.route.push_route.Goals as goal

pub returns-clause-back : goal.returns-clause-back
returns-clause-back c = λ i can. route_back i _ _ can
