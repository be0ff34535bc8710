use Rattle.asa_objects_lines.specs.Items.{item_services}
use Rattle.std.proofs.Common.{◌≡◌, ◌+◌, ◌++◌, sym, ap, ◌∙◌, arith}
use Rattle.asa_objects_values.specs.Tables.{services_of_name}
use Rattle.asa_objects.specs.Stacks.{unwound_services, cost, cost_of}
use Rattle.asa_objects.proofs.StackLaws.{unwound-push, cost-push}
use Rattle.asa_objects.proofs.expansion.list_services.Goals as goal

pub loop-rest-smaller : goal.loop-rest-smaller
loop-rest-smaller c =
    let popped : cost c.args.table.now c.loop-rest.stack.items ≡ cost c.args.table.now c.pop.new.self.items + cost_of c.args.table.now c.in-Some.rest.items =
    ap (cost c.args.table.now) c.in-Some.ensures.items ∙ cost-push c.args.table.now c.pop.new.self.items c.in-Some.rest in
    let less = c.in_ok-step_services.ensures.shorter in
    omega (arith, popped, less)

pub loop-rest-preserved : goal.loop-rest-preserved
loop-rest-preserved c =
    c.in_ok-step_services.ensures.listed
    ∙ ap (λ u. c.loop-rest.out.items ++ u) (sym (ap (unwound_services c.args.table.now) c.in-Some.ensures.items
    ∙ unwound-push item_services (services_of_name c.args.table.now) c.pop.new.self.items c.in-Some.rest))
    ∙ c.loop-rest.invariant
