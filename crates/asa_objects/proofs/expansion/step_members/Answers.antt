use Rattle.std.proofs.Common.{◌≡◌, ◌+◌, ◌∷◌, ◌++◌, Some, None, sym, ap, ◌∙◌, rules}
use Rattle.asa_objects_values.specs.Tables.{named, members_of, own_members}
use Rattle.asa_objects.specs.Stacks.{given_by, unwound_members, cost, cost_of}
use Rattle.asa_objects_table.proofs.UseLaws.{on-ok}
use Rattle.asa_objects.proofs.StackLaws.{unwound-push, cost-push, own-ref, step-named, step-own, cost-named, cost-own}
use Rattle.asa_objects.proofs.expansion.step_members.Goals as goal

pub returns-in-Some-name_in-clause-listed : goal.returns-in-Some-name_in-clause-listed
returns-in-Some-name_in-clause-listed c =
    let cut : c.args.rest.items ≡ c.in-Some.first.now ∷ c.next.new.self = search rules in
    let waiting : unwound_members c.args.table.now c.push.new.self.items ≡ given_by own_members (members_of c.args.table.now) c.next.new.self ++ unwound_members c.args.table.now c.args.stack.now.items =
    ap (unwound_members c.args.table.now) c.in_ok-push.ensures.items ∙ unwound-push (λ _ i. own_members i) (members_of c.args.table.now) c.args.stack.now.items _ in
    let refers : named c.in-Some.first.now ≡ Some c.in-Some-name_in.name.now = sym c.in-Some-name_in.ensures in
    on-ok _ _ c.wait_for_members.result c.wait_for_members.ensures.listed
    (λ waits. step-named own_members (members_of c.args.table.now) c.in-Some.first.now c.next.new.self c.args.rest.items cut c.args.out.now.items
    (unwound_members c.args.table.now c.args.stack.now.items) (unwound_members c.args.table.now c.wait_for_members.new.stack.items)
    c.in-Some-name_in.name.now refers (own-ref c.in-Some.first.now c.in-Some-name_in.name.now refers) (waits ∙ ap (λ u. members_of c.args.table.now c.in-Some-name_in.name.now ++ u) waiting))

pub returns-in-Some-name_in-clause-shorter : goal.returns-in-Some-name_in-clause-shorter
returns-in-Some-name_in-clause-shorter c =
    let cut : c.args.rest.items ≡ c.in-Some.first.now ∷ c.next.new.self = search rules in
    let refers : named c.in-Some.first.now ≡ Some c.in-Some-name_in.name.now = sym c.in-Some-name_in.ensures in
    let middle : cost c.args.table.now c.push.new.self.items ≡ cost c.args.table.now c.args.stack.now.items + cost_of c.args.table.now c.next.new.self =
    ap (cost c.args.table.now) c.in_ok-push.ensures.items ∙ cost-push c.args.table.now c.args.stack.now.items _ in
    on-ok _ _ c.wait_for_members.result c.wait_for_members.ensures.shorter
    (λ le. cost-named c.args.table.now c.in-Some.first.now c.next.new.self c.args.rest.items cut c.in-Some-name_in.name.now
    (cost c.args.table.now c.args.stack.now.items) (cost c.args.table.now c.wait_for_members.new.stack.items) (cost c.args.table.now c.push.new.self.items) refers middle le)

pub returns-in-None-clause-listed : goal.returns-in-None-clause-listed
returns-in-None-clause-listed c =
    let cut : c.args.rest.items ≡ c.in-Some.first.now ∷ c.next.new.self = search rules in
    let waiting : unwound_members c.args.table.now c.push.new.self.items ≡ given_by own_members (members_of c.args.table.now) c.next.new.self ++ unwound_members c.args.table.now c.args.stack.now.items =
    ap (unwound_members c.args.table.now) c.in_ok-push.ensures.items ∙ unwound-push (λ _ i. own_members i) (members_of c.args.table.now) c.args.stack.now.items _ in
    let none : named c.in-Some.first.now ≡ None = sym c.in-None.ensures in
    on-ok _ _ c.push_member.result c.push_member.ensures
    (λ pushed. step-own own_members (members_of c.args.table.now) c.in-Some.first.now c.next.new.self c.args.rest.items cut c.args.out.now.items
    (unwound_members c.args.table.now c.args.stack.now.items) (unwound_members c.args.table.now c.push.new.self.items) none c.push_member.new.out.items pushed waiting)

pub returns-in-None-clause-shorter : goal.returns-in-None-clause-shorter
returns-in-None-clause-shorter c =
    let cut : c.args.rest.items ≡ c.in-Some.first.now ∷ c.next.new.self = search rules in
    let middle : cost c.args.table.now c.push.new.self.items ≡ cost c.args.table.now c.args.stack.now.items + cost_of c.args.table.now c.next.new.self =
    ap (cost c.args.table.now) c.in_ok-push.ensures.items ∙ cost-push c.args.table.now c.args.stack.now.items _ in
    on-ok _ _ c.push_member.result c.push_member.ensures
    (λ pushed. cost-own c.args.table.now c.in-Some.first.now c.next.new.self c.args.rest.items cut
    (cost c.args.table.now c.args.stack.now.items) (cost c.args.table.now c.push.new.self.items) middle)
