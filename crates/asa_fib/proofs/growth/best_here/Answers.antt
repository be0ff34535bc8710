use Rattle.std.proofs.Common.{◌∙◌, sym, inl, inr, arith}
use Rattle.asa_trie.specs.Bits.{is_here}
use Rattle.asa_fib.specs.Growth.{prefix_of}
use Rattle.asa_fib.proofs.WayLaws.{best_step}
use Rattle.asa_fib.proofs.growth.best_here.Goals as goal
use Rattle.asa_fib.proofs.growth.best_here.Goals.{then-is_here, else-is_here}

pub loop-route-preserved : goal.loop-route-preserved
loop-route-preserved c = elim c.if-is_here.branch [
  | then-is_here w ↦ best_step (λ r. is_here c.args.level (prefix_of r)) c.args.routes.now c.loop-route.route-index c.route-item.result c.loop-route.best c.if-is_here.best
      (omega arith) c.route-item.is (inl (sym c.is_here.ensures ∙ w.if-is_here.true, cc)) ∙ c.loop-route.invariant
  | else-is_here w ↦ best_step (λ r. is_here c.args.level (prefix_of r)) c.args.routes.now c.loop-route.route-index c.route-item.result c.loop-route.best c.if-is_here.best
      (omega arith) c.route-item.is (inr (sym c.is_here.ensures ∙ w.if-is_here.false, w.best-is)) ∙ c.loop-route.invariant
]
