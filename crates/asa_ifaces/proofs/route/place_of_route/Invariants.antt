use Rattle.std.proofs.Common.{◌≡◌, ◌++◌, take, drop}
use Rattle.asa_ifaces.specs.Routes.{with_route}
use Rattle.asa_ifaces.proofs.route.place_of_route.Given as goal

abbrev pub invariant-loop-i : goal.invariant-loop-i
invariant-loop-i l = take l.i l.routes ++ with_route (drop l.i l.routes) l.route ≡ with_route l.routes l.route
