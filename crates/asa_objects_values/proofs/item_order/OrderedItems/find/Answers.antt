use Rattle.std.proofs.Common.{◌≡◌, Some, None, rules, sym, ap, ◌∙◌}
use Rattle.std.specs.List.{find}
use Rattle.std.specs.Option.{option_copied}
use Rattle.asa_objects_values.specs.Definition.{same_item}
use Rattle.asa_objects_values.specs.ItemOrder.{number_of}
use Rattle.asa_objects_values.proofs.OrderLaws.{found-at, found-none}
use Rattle.asa_objects_values.proofs.item_order.OrderedItems.find.Goals as goal

pub returns-in_err-number : goal.returns-in_err-number
returns-in_err-number c =
    let none : number_of c.self.inside.order.entries c.args.item.now ≡ None = sym (c.self.invariant.known c.args.item.now) ∙ (search rules) in
    ap option_copied c.from_residual.ensures ∙ sym (found-none c.self.inside.order.entries c.args.item.now none) ∙ ap (find (same_item c.args.item.now)) c.self.view_is

pub returns : goal.returns
returns c =
    let some : number_of c.self.inside.order.entries c.args.item.now ≡ Some c.in_ok-number.number.now = sym (c.self.invariant.known c.args.item.now) ∙ (search rules) in
    c.get-2.ensures.value ∙ found-at c.self.inside.order.entries c.args.item.now c.in_ok-number.number.now c.self.invariant.rising some
    ∙ ap (find (same_item c.args.item.now)) c.self.view_is
