use Rattle.std.proofs.Common.{arith, ap}
use Rattle.asa_base.proofs.PrefixCount.{one_between, none_between, few_of_span, some_of_span}
use Rattle.asa_base.proofs.prefixes.prefix_count.Goals as goal

pub overflow_add-count : goal.overflow_add-count
overflow_add-count c = omega (arith, few_of_span c.args.range (omega (arith, ap (λ s. s.last.0) c.range.view_is)))

pub loop-at-preserved : goal.loop-at-preserved
loop-at-preserved c = rw c.size_of-at.ensures.value (omega (arith, one_between _ _ _ c.loop-at-test.true c.largest_level-level.ensures.value))

pub returns-clause-value : goal.returns-clause-value
returns-clause-value c = omega (arith, none_between _ _ c.loop-at-test.false)

pub returns-clause-some : goal.returns-clause-some
returns-clause-some c = omega (arith, none_between _ _ c.loop-at-test.false, some_of_span c.args.range (omega (arith, c.range.invariant, ap (λ s. s.first.0) c.range.view_is, ap (λ s. s.last.0) c.range.view_is)))

pub returns-clause-few : goal.returns-clause-few
returns-clause-few c = omega (arith, few_of_span c.args.range (omega (arith, ap (λ s. s.last.0) c.range.view_is)))
