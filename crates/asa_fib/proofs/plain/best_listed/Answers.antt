use Rattle.std.proofs.Common.{◌∙◌, sym, inl, inr, arith}
use Rattle.asa_trie.specs.Bits.{covers_number}
use Rattle.asa_fib.specs.Growth.{prefix_of}
use Rattle.asa_fib.proofs.WayLaws.{best_step}
use Rattle.asa_fib.proofs.plain.best_listed.Goals as goal
use Rattle.asa_fib.proofs.plain.best_listed.Goals.{then-covers, else-covers}

pub loop-route-preserved : goal.loop-route-preserved
loop-route-preserved c = elim c.if-covers.branch [
  | then-covers w ↦ best_step (λ r. covers_number (prefix_of r) c.args.a.0) c.args.routes.now c.loop-route.route-index c.route-item.result c.loop-route.best c.if-covers.best
      (omega arith) c.route-item.is (inl (sym c.covers.ensures ∙ w.if-covers.true, cc)) ∙ c.loop-route.invariant
  | else-covers w ↦ best_step (λ r. covers_number (prefix_of r) c.args.a.0) c.args.routes.now c.loop-route.route-index c.route-item.result c.loop-route.best c.if-covers.best
      (omega arith) c.route-item.is (inr (sym c.covers.ensures ∙ w.if-covers.false, w.best-is)) ∙ c.loop-route.invariant
]
