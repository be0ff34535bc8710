use Rattle.std.proofs.Common.{[], rules, sym, subst, refl, arith}
use Rattle.asa_objects_values.specs.ItemOrder.{IsSplit}
use Rattle.asa_objects_values.proofs.DraftLaws.{standing-all}
use Rattle.asa_objects_values.proofs.OrderLaws.{standing-more}
use Rattle.asa_objects_values.proofs.item_order.take_all.Goals as goal

pub loop-item-init : goal.loop-item-init
loop-item-init c = (
  λ first back items split. subst (IsSplit c.args.order.now.entries c.args.numbers.now.entries first back) (sym (standing-all items [] refl)) split,
  omega arith,
)

pub loop-item-preserved : goal.loop-item-preserved
loop-item-preserved c = (
  λ first back items split. subst (IsSplit c.take_out.new.order.entries c.take_out.new.numbers.entries first back)
      (standing-more items c.args.gone.now c.loop-item.item-index c.item-item.result (omega arith) (search rules))
      (c.take_out.ensures.split first back _ (c.loop-item.invariant.0 first back items split)),
  omega (arith, c.loop-item.invariant.1, c.take_out.ensures.room),
)
