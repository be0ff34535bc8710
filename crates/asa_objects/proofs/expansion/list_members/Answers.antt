use Rattle.std.proofs.Common.{◌≡◌, ◌+◌, ◌++◌, sym, ap, ◌∙◌, arith}
use Rattle.asa_objects_values.specs.Tables.{members_of, own_members}
use Rattle.asa_objects.specs.Stacks.{unwound_members, cost, cost_of}
use Rattle.asa_objects.proofs.StackLaws.{unwound-push, cost-push}
use Rattle.asa_objects.proofs.expansion.list_members.Goals as goal

pub loop-rest-smaller : goal.loop-rest-smaller
loop-rest-smaller c =
    let popped : cost c.args.table.now c.loop-rest.stack.items ≡ cost c.args.table.now c.pop.new.self.items + cost_of c.args.table.now c.in-Some.rest.items =
    ap (cost c.args.table.now) c.in-Some.ensures.items ∙ cost-push c.args.table.now c.pop.new.self.items c.in-Some.rest in
    let less = c.in_ok-step_members.ensures.shorter in
    omega (arith, popped, less)

pub loop-rest-preserved : goal.loop-rest-preserved
loop-rest-preserved c =
    c.in_ok-step_members.ensures.listed
    ∙ ap (λ u. c.loop-rest.out.items ++ u) (sym (ap (unwound_members c.args.table.now) c.in-Some.ensures.items
    ∙ unwound-push (λ _ i. own_members i) (members_of c.args.table.now) c.pop.new.self.items c.in-Some.rest))
    ∙ c.loop-rest.invariant
