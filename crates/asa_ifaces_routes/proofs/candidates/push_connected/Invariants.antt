use Rattle.std.proofs.Common.{◌≡◌, ◌++◌, drop}
use Rattle.asa_ifaces_routes.specs.Candidates.{connected_from}
use Rattle.asa_ifaces_routes.proofs.candidates.push_connected.Given as goal

abbrev pub invariant-loop-index : goal.invariant-loop-index
invariant-loop-index l =
    l.out.items ++ connected_from l.index (drop l.index l.ifaces) ≡ l.initial.out.items ++ connected_from 0 l.ifaces
