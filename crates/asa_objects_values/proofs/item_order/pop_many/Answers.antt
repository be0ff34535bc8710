use Rattle.std.proofs.Common.{◌≡◌, ◌-◌, length, take, sym, ap, ◌∙◌, arith}
use Rattle.std.proofs.Math.Seq.{take-length}
use Rattle.asa_objects_values.proofs.OrderLaws.{popped-more}
use Rattle.asa_objects_values.proofs.item_order.pop_many.Goals as goal

pub loop-preserved : goal.loop-preserved
loop-preserved c = c.pop.ensures ∙ popped-more c.args.order.now.entries c.loop.order.entries c.loop.counter c.loop.invariant

pub loop-init : goal.loop-init
loop-init c =
    let all : length c.args.order.now.entries - 0 ≡ length c.args.order.now.entries = omega arith in
    sym (ap (λ n. take n c.args.order.now.entries) all ∙ take-length c.args.order.now.entries)
