use Rattle.std.proofs.Common.{◌≡◌, ◌+◌, ◌-◌, ◌≤◌, length}
use Rattle.asa_trie.specs.Tries.{walk}
use Rattle.asa_fib.specs.Routes.{better}
use Rattle.asa_fib.specs.Lookup.{ways, links}
use Rattle.asa_fib.proofs.fib.best_to.Given as goal

abbrev pub invariant-loop : goal.invariant-loop
invariant-loop l = record {
  value : better l.best (walk ways links (λ n. n.best) l.nodes (33 - l.counter) l.at l.a.0) ≡ walk ways links (λ n. n.best) l.nodes 33 (length l.nodes) l.a.0;
  reads : l.c ≤ l.initial.c + l.counter;
}
