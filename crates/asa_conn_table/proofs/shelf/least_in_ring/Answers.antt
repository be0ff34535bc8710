-- The place that was passed over isn't wanted, so the next one up is at or below all that are left.
use Rattle.std.proofs.Common.{◌≡◌, ◌<◌, length, None, false, sym, ap, ◌∙◌, arith}
use Rattle.std.proofs.lemmas.Bool.{false≢true}
use Rattle.std.proofs.lemmas.List.{get_or_read}
use Rattle.asa_conn_table.specs.Slots.{passes, slot, slot_passes}
use Rattle.asa_conn_table.proofs.MirrorLaws.{least_some, least_none}
use Rattle.asa_conn_table.proofs.shelf.least_in_ring.Goals as goal

pub loop-at-preserved : goal.loop-at-preserved
loop-at-preserved c =
    let at = c.loop-at.at in
    let xs = c.args.slots.now in
    let t = passes c.args.wanted.now in
    let n = c.newer-at-in-loop-at.ensures.next 0 c.loop-at.invariant.home in
    let lt : at < length xs = omega (arith, c.requires.places, c.loop-at-test.true, c.places-places.ensures.value) in
    let missed : slot_passes t (slot xs at) ≡ false = ap (slot_passes t) (sym (get_or_read xs at c.index-slots-at.result lt c.index-slots-at.is None)) ∙ sym c.passes_slot.ensures ∙ c.if-passes_slot.false in
    record {
      there = n.there;
      home = n.home;
      left = λ q i pass. n.least q i
          (λ same. false≢true (sym missed ∙ ap (λ x. slot_passes t (slot xs x)) (sym same) ∙ pass))
          (λ _. (c.loop-at.invariant.left q i pass).1);
    }

pub returns-then-passes_slot : goal.returns-then-passes_slot
returns-then-passes_slot c =
    let at = c.loop-at.at in
    let xs = c.args.slots.now in
    let t = passes c.args.wanted.now in
    let lt : at < length xs = omega (arith, c.requires.places, c.loop-at-test.true, c.places-places.ensures.value) in
    least_some c.requires t at (omega (arith, c.loop-at-test.true, c.places-places.ensures.value))
    (ap (slot_passes t) (sym (get_or_read xs at c.index-slots-at.result lt c.index-slots-at.is None)) ∙ sym c.passes_slot.ensures ∙ c.if-passes_slot.true)
    c.loop-at.invariant.left

pub returns : goal.returns
returns c = least_none c.requires (passes c.args.wanted.now) c.loop-at.at (omega (arith, c.loop-at-test.false, c.places-places.ensures.value)) c.loop-at.invariant.left
