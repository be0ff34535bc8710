-- One case more.
use Rattle.asa_nat_rules.specs.Pairs.{case_pairs}
use Rattle.asa_nat_index.specs.Shelves.{holds_at, covering_at}
use Rattle.asa_nat_index.proofs.ShelfLaws.{ranks_at, sum_at, few_at}
use Rattle.asa_nat_index.proofs.shelves.shelved.Goals as goal

pub loop-rank-preserved : goal.loop-rank-preserved
loop-rank-preserved c = record {
  first = λ k p. ranks_at (holds_at c.args.part k p) c.args.cases.now c.loop-rank.rank c.index-cases-rank.result _ _ _ c.loop-rank-test.true c.index-cases-rank.is
      (c.in_ok-add_part.ensures.first k p) (c.loop-rank.invariant.first k p);
  covering = λ k p. sum_at (covering_at c.args.part k p) c.args.cases.now c.loop-rank.rank c.index-cases-rank.result _ _ _ c.loop-rank-test.true c.index-cases-rank.is
      (c.in_ok-add_part.ensures.covering k p) (c.loop-rank.invariant.covering k p);
  few = λ k. few_at (λ x. case_pairs x.1) c.args.cases.now c.loop-rank.rank c.index-cases-rank.result _ _ _ c.loop-rank-test.true c.index-cases-rank.is
      (c.in_ok-add_part.ensures.longer k) (c.loop-rank.invariant.few k);
}
