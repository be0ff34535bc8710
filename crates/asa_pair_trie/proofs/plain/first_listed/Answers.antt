use Rattle.std.proofs.Common.{◌∙◌, sym, inl, inr, arith}
use Rattle.asa_pair_trie.proofs.RankLaws.{rank_step}
use Rattle.asa_pair_trie.proofs.plain.first_listed.Goals as goal
use Rattle.asa_pair_trie.proofs.plain.first_listed.Goals.{then-holds, else-holds}

pub loop-entry-preserved : goal.loop-entry-preserved
loop-entry-preserved c = elim c.if-holds.branch [
  | then-holds w ↦ rank_step c.args.p.now c.args.entries.now c.loop-entry.entry-index c.entry-item.result c.loop-entry.best c.if-holds.best
      (omega arith) c.entry-item.is (inl (sym c.holds.ensures ∙ w.if-holds.true, cc)) ∙ c.loop-entry.invariant
  | else-holds w ↦ rank_step c.args.p.now c.args.entries.now c.loop-entry.entry-index c.entry-item.result c.loop-entry.best c.if-holds.best
      (omega arith) c.entry-item.is (inr (sym c.holds.ensures ∙ w.if-holds.false, w.best-is)) ∙ c.loop-entry.invariant
]
