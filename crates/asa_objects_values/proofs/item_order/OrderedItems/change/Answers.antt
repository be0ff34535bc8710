use Rattle.std.proofs.Common.{◌++◌, rules, sym, ap, subst, ◌∙◌}
use Rattle.std.specs.Map.{values_of}
use Rattle.asa_objects_values.specs.Drafts.{AreDistinct, AreNew, standing}
use Rattle.asa_objects_values.specs.ItemOrder.{IsSplit, numbered}
use Rattle.asa_objects_values.proofs.OrderLaws.{changed-sound, changed-values, placed-split}
use Rattle.asa_objects_values.proofs.item_order.OrderedItems.change.Goals as goal

pub invariant_of-self-2 : goal.invariant_of-self-2
invariant_of-self-2 c =
    let split : IsSplit c.take_all.new.order.entries c.take_all.new.numbers.entries c.self.inside.next (numbered c.self.inside.next c.args.added.now) (standing (values_of c.self.inside.order.entries) c.as_slice.result.now) =
    c.take_all.ensures.split _ _ _ (placed-split c.self.inside.order.entries c.place.new.order.entries c.self.inside.numbers.entries c.reserve.new.self.entries c.self.inside.next c.args.added.now c.self.invariant c.reserve.ensures.entries c.in_ok-place.ensures.ok) in
    changed-sound c.take_all.new.order.entries c.take_all.new.numbers.entries c.note_all.new.numbers.entries c.self.inside.next c.in-Some.next _ c.args.added.now split
    (subst (λ xs. AreNew xs c.args.added.now) (ap (λ xs. standing xs c.args.gone.now.keys) (sym c.self.view_is) ∙ ap (standing (values_of c.self.inside.order.entries)) (sym c.as_slice.ensures.keys)) c.requires)
    (subst AreDistinct c.added.view_is c.added.invariant.distinct) (search rules) c.note_all.ensures

pub returns-clause-ok : goal.returns-clause-ok
returns-clause-ok c =
    let split : IsSplit c.take_all.new.order.entries c.take_all.new.numbers.entries c.self.inside.next (numbered c.self.inside.next c.args.added.now) (standing (values_of c.self.inside.order.entries) c.as_slice.result.now) =
    c.take_all.ensures.split _ _ _ (placed-split c.self.inside.order.entries c.place.new.order.entries c.self.inside.numbers.entries c.reserve.new.self.entries c.self.inside.next c.args.added.now c.self.invariant c.reserve.ensures.entries c.in_ok-place.ensures.ok) in
    changed-values c.take_all.new.order.entries c.take_all.new.numbers.entries c.self.inside.next _ c.args.added.now split
    ∙ ap (λ xs. xs ++ c.args.added.now) (ap (standing (values_of c.self.inside.order.entries)) c.as_slice.ensures.keys ∙ ap (λ xs. standing xs c.args.gone.now.keys) c.self.view_is)
