-- The place that was passed over isn't wanted, so the next one down is at or above all that are left.
use Rattle.std.proofs.Common.{◌≡◌, ◌<◌, false, sym, ap, ◌∙◌, arith}
use Rattle.std.proofs.lemmas.Bool.{false≢true}
use Rattle.asa_pools.specs.Keys.{passes}
use Rattle.asa_pools.specs.Tally.{row_at}
use Rattle.asa_pools.proofs.TallyLaws.{smaller_is}
use Rattle.asa_pools.proofs.tally.find_in_ring.Goals as goal

pub loop-at-smaller : goal.loop-at-smaller
loop-at-smaller c =
    let n = c.older-at-in-loop-at.ensures.next c.bucket-bucket.result c.loop-at.invariant.home in
    let lt : c.loop-at.at < c.args.ring.now.places = omega (arith, c.loop-at-test.true, c.places-places.ensures.value) in
    smaller_is c.args.ring.now c.loop-at.at c.older-at-in-loop-at.result lt (c.loop-at.invariant.there.live lt) (λ low. n.falls low lt)

pub loop-at-preserved : goal.loop-at-preserved
loop-at-preserved c =
    let n = c.older-at-in-loop-at.ensures.next c.bucket-bucket.result c.loop-at.invariant.home in
    let missed : passes c.args.wanted (row_at c.args.rows.now c.loop-at.at).key ≡ false =
    ap (passes c.args.wanted) (sym c.key_at.ensures) ∙ sym c.passes.ensures ∙ c.if-passes.false in
    record {
      there = n.there;
      home = n.home;
      left = λ q i pass. n.most q i
          (λ same. false≢true (sym missed ∙ ap (λ x. passes c.args.wanted (row_at c.args.rows.now x).key) (sym same) ∙ pass))
          (λ _. (c.loop-at.invariant.left q i pass).1);
    }
