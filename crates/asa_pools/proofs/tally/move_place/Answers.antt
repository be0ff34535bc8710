-- No place of the ring has the stamp of the place that was left, so the last one joins strictly between its neighbours.
use Rattle.std.proofs.Common.{◌≡◌, ◌+◌, ◌%◌, ap, subst, ◌∙◌, arith}
use Rattle.asa_pools.specs.Keys.{key_hash}
use Rattle.asa_pools.specs.Tally.{IsAbove}
use Rattle.asa_pools.proofs.TallyLaws.{last_moved, moved_is, strictly_below}
use Rattle.asa_pools.proofs.tally.move_place.Goals as goal

pub join_below-requires-clause-upper : goal.join_below-requires-clause-upper
join_below-requires-clause-upper c = λ q i under.
    strictly_below c.args.place c.args.last c.if-place-last.true c.requires.stamps c.requires.free c.part.ensures c.part-then-place-last.ensures
    (c.from-mark.result + 1) q (omega (arith, c.from-mark.ensures)) i.place i.joined
    (c.above-above.ensures.upper q (record { place = i.place; joined = i.joined; home = i.home ∙ c.above-above.ensures.home }) under)

pub returns-then-place-last : goal.returns-then-place-last
returns-then-place-last c =
    moved_is c.args.place c.args.last c.if-place-last.true c.requires.stamps c.requires.free c.part.ensures c.part-then-place-last.ensures
    (c.from-mark.result + 1) (key_hash c.args.moved) c.above-above.result c.join_below.new.self (omega (arith, c.from-mark.ensures))
    (subst (λ b. IsAbove c.part-then-place-last.new.self b (c.from-mark.result + 1) c.above-above.result)
    (c.bucket-bucket.ensures.value ∙ ap (λ n. key_hash c.args.moved % n) c.buckets.ensures.value) c.above-above.ensures)
    c.join_below.ensures

pub returns-else-place-last : goal.returns-else-place-last
returns-else-place-last c = last_moved c.args.place c.args.last (key_hash c.args.moved) (omega (arith, c.if-place-last.false, c.requires.order)) c.part.ensures
