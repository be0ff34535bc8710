use Rattle.std.proofs.Common.{rules}
use Rattle.asa_objects_values.proofs.OrderLaws.{split-less, split-same}
use Rattle.asa_objects_values.proofs.item_order.take_out.Goals as goal

pub returns-in-Some-clause-split : goal.returns-in-Some-clause-split
returns-in-Some-clause-split c = λ first back items split.
    rw c.remove-item.ensures.entries (split-less c.args.order.now.entries c.args.numbers.now.entries c.swap_remove.new.self.entries first back items c.args.item.now c.in-Some.number
    (search rules) c.swap_remove.ensures.updates.0 split)

pub returns-in_default-clause-split : goal.returns-in_default-clause-split
returns-in_default-clause-split c = λ first back items split.
    split-same c.args.order.now.entries c.args.numbers.now.entries c.swap_remove.new.self.entries first back items c.args.item.now
    (search rules) c.swap_remove.ensures.updates.0 split
