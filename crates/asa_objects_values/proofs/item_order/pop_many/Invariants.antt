use Rattle.std.proofs.Common.{◌≡◌, ◌-◌, length, take}
use Rattle.asa_objects_values.proofs.item_order.pop_many.Given as goal

abbrev pub invariant-loop : goal.invariant-loop
invariant-loop l = l.order.entries ≡ take (length l.initial.order.entries - l.counter) l.initial.order.entries
