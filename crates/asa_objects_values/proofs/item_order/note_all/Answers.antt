use Rattle.std.proofs.Common.{◌≡◌, ◌∷◌, length, rules, ap, subst, arith}
use Rattle.asa_objects_values.specs.ItemOrder.{AreNoted}
use Rattle.asa_objects_values.proofs.OrderLaws.{noted-more}
use Rattle.asa_objects_values.proofs.item_order.note_all.Goals as goal

pub loop-item-preserved : goal.loop-item-preserved
loop-item-preserved c =
    let next : c.loop-item.item-iterator ≡ c.in-Some.item.now ∷ c.next.new.self = search rules in (
      noted-more c.args.numbers.now.entries c.loop-item.numbers.entries c.note.new.numbers.entries c.args.first c.loop-item.number c.args.items.now c.next.new.self c.in-Some.item.now
          (subst (AreNoted c.args.numbers.now.entries c.loop-item.numbers.entries c.args.first c.loop-item.number c.args.items.now) next c.loop-item.invariant.0) c.note.ensures.known,
      omega (arith, ap length next, c.loop-item.invariant.1, c.note.ensures.room),
    )
