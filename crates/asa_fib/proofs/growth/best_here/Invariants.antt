use Rattle.std.proofs.Common.{◌≡◌, drop, filter}
use Rattle.asa_trie.specs.Bits.{is_here}
use Rattle.asa_fib.specs.Routes.{better, best_of}
use Rattle.asa_fib.specs.Growth.{prefix_of}
use Rattle.asa_fib.proofs.growth.best_here.Given as goal

abbrev pub invariant-loop-route : goal.invariant-loop-route
invariant-loop-route l =
    better l.best (best_of (filter (λ r. is_here l.level (prefix_of r)) (drop l.route-index l.routes)))
    ≡ best_of (filter (λ r. is_here l.level (prefix_of r)) l.routes)
