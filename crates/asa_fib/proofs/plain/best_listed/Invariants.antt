use Rattle.std.proofs.Common.{◌≡◌, drop, filter}
use Rattle.asa_trie.specs.Bits.{covers_number}
use Rattle.asa_fib.specs.Routes.{better, best_of}
use Rattle.asa_fib.specs.Growth.{prefix_of}
use Rattle.asa_fib.proofs.plain.best_listed.Given as goal

abbrev pub invariant-loop-route : goal.invariant-loop-route
invariant-loop-route l =
    better l.best (best_of (filter (λ r. covers_number (prefix_of r) l.a.0) (drop l.route-index l.routes)))
    ≡ best_of (filter (λ r. covers_number (prefix_of r) l.a.0) l.routes)
