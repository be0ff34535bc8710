use Rattle.std.proofs.Common.{◌≡◌, ◌+◌, ◌^◌, ◌<◌, arith, ap, lit<}
use Rattle.asa_base.proofs.PrefixCount.{room, step, at_end, few_of_span}
use Rattle.asa_base.proofs.PrefixCover.{covers_span}
use Rattle.asa_base.proofs.prefixes.prefixes_of.Goals as goal

pub push-requires : goal.push-requires
push-requires c =
    let last : c.args.range.last.0 < 2 ^ 32 = omega (arith, ap (λ s. s.last.0) c.range.view_is) in
    let e : c.from-end.result + 1 ≡ c.args.range.last.0 + 1 = omega (arith, ap (λ s. s.last.0) c.range.view_is) in
    (lit< tt, room _ c.args.range _ _ last c.loop-at-test.true c.loop-at.invariant)

pub loop-at-preserved : goal.loop-at-preserved
loop-at-preserved c = rw (c.push.ensures.items, c.block.ensures, c.size_of-at.ensures.value)
    (step _ _ _ _ _ c.loop-at-test.true c.largest_level-level.ensures.value c.loop-at.invariant)

pub returns-clause-value : goal.returns-clause-value
returns-clause-value c = at_end _ _ _ _ c.loop-at-test.false c.loop-at.invariant

pub returns-clause-holds : goal.returns-clause-holds
returns-clause-holds c a = rw (at_end _ _ _ _ c.loop-at-test.false c.loop-at.invariant) (covers_span c.args.range a)

pub returns-clause-few : goal.returns-clause-few
returns-clause-few c = rw (at_end _ _ _ _ c.loop-at-test.false c.loop-at.invariant) (few_of_span c.args.range (omega (arith, ap (λ s. s.last.0) c.range.view_is)))
