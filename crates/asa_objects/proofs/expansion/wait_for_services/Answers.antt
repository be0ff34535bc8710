use Rattle.asa_objects_lines.specs.Items.{item_services}
use Rattle.std.proofs.Common.{◌≡◌, ◌++◌, Option, sym, ap, ◌∙◌}
use Rattle.asa_objects_values.specs.Tables.{Entry, entry_of, group_at, items_in, services_of_name}
use Rattle.asa_objects_table.specs.Ranks.{services, amount}
use Rattle.asa_objects.specs.Stacks.{given_by, unwound_services}
use Rattle.asa_objects_table.proofs.UseLaws.{on-ok}
use Rattle.asa_objects.proofs.StackLaws.{services-given, none-left, wait-listed, wait-cost}
use Rattle.asa_objects.proofs.expansion.wait_for_services.Goals as goal

pub returns-then-totals-eq0-clause-listed : goal.returns-then-totals-eq0-clause-listed
returns-then-totals-eq0-clause-listed c =
    let zero-is : c.totals.result.services ≡ 0 = ap (amount services) (sym c.totals-2.view_is) ∙ c.if-totals-eq0.true in
    ap (λ m. m ++ unwound_services c.args.table.now c.args.stack.now.items)
    (sym (none-left (services_of_name c.args.table.now c.args.name.now) (sym c.totals.ensures.services ∙ zero-is)))

pub returns-in-Some-clause-listed : goal.returns-in-Some-clause-listed
returns-in-Some-clause-listed c = on-ok _ _ c.wait_for_rest.result c.wait_for_rest.ensures
    (λ waits. wait-listed c.args.table.now c.order.ensures.ranks c.order.ensures.uses c.order.ensures.stamp c.order.ensures.sound item_services (services_of_name c.args.table.now)
    c.args.stack.now.items c.wait_for_rest.new.stack.items c.args.name.now c.in-Some.stated.now
    (services-given c.args.table.now c.order.ensures.ranks c.order.ensures.uses c.order.ensures.stamp c.order.ensures.sound c.args.name.now) c.in-Some.ensures waits)

pub returns-in-Some-clause-shorter : goal.returns-in-Some-clause-shorter
returns-in-Some-clause-shorter c = on-ok _ _ c.wait_for_rest.result c.wait_for_rest.ensures
    (λ waits. wait-cost c.args.table.now c.order.ensures.ranks c.order.ensures.uses c.order.ensures.stamp c.order.ensures.sound
    c.args.stack.now.items c.wait_for_rest.new.stack.items c.args.name.now c.in-Some.stated.now c.in-Some.ensures waits)

pub returns-in-None-clause-listed : goal.returns-in-None-clause-listed
returns-in-None-clause-listed c =
    ap (λ m. m ++ unwound_services c.args.table.now c.args.stack.now.items)
    (sym (services-given c.args.table.now c.order.ensures.ranks c.order.ensures.uses c.order.ensures.stamp c.order.ensures.sound c.args.name.now
    ∙ ap (λ (o : Option Entry). given_by (item_services (group_at (entry_of c.args.table.now c.args.name.now))) (services_of_name c.args.table.now) (items_in o)) (sym c.in-None.ensures)))
