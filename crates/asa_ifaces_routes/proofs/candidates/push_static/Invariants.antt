use Rattle.std.proofs.Common.{◌≡◌, ◌+◌, ◌++◌, drop}
use Rattle.asa_ifaces_routes.specs.Candidates.{static_from}
use Rattle.asa_ifaces_routes.proofs.candidates.push_static.Given as goal

abbrev pub invariant-loop-index : goal.invariant-loop-index
invariant-loop-index l =
    l.out.items ++ static_from l.ifaces (l.index + 1) (drop l.index l.lines) ≡ l.initial.out.items ++ static_from l.ifaces 1 l.lines
