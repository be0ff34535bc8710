-- The place that was passed over isn't wanted, so the next one down is at or above all that are left.
use Rattle.std.proofs.Common.{◌≡◌, ◌<◌, length, None, false, sym, ap, ◌∙◌, arith}
use Rattle.std.proofs.lemmas.Bool.{false≢true}
use Rattle.std.proofs.lemmas.List.{get_or_read}
use Rattle.asa_conn_table.specs.Slots.{passes, slot, slot_passes}
use Rattle.asa_conn_table.proofs.shelf.latest_in_ring.Goals as goal

pub loop-at-preserved : goal.loop-at-preserved
loop-at-preserved c =
    let at = c.loop-at.at in
    let xs = c.args.slots.now in
    let t = passes c.args.wanted.now in
    let n = c.older-at-in-loop-at.ensures.next c.args.bucket c.loop-at.invariant.home in
    let lt : at < length xs = omega (arith, c.requires.long, c.loop-at-test.true, c.places-places.ensures.value) in
    let missed : slot_passes t (slot xs at) ≡ false = ap (slot_passes t) (sym (get_or_read xs at c.index-slots-at.result lt c.index-slots-at.is None)) ∙ sym c.passes_slot.ensures ∙ c.if-passes_slot.false in
    record {
      there = n.there;
      home = n.home;
      left = λ q i pass. n.most q i
          (λ same. false≢true (sym missed ∙ ap (λ x. slot_passes t (slot xs x)) (sym same) ∙ pass))
          (λ _. (c.loop-at.invariant.left q i pass).1);
    }
