use Rattle.std.proofs.Common.{◌≡◌, IfOk, subst}
use Rattle.std.specs.List.{sum_by}
use Rattle.asa_acl_boxes.specs.Pairs.{box_pairs, list_pairs}
use Rattle.asa_acl_table.specs.Names.{meanings_in}
use Rattle.asa_config.proofs.config.Config.boxes.Goals as goal

pub returns-clause-pairs : goal.returns-clause-pairs
returns-clause-pairs c =
    subst (λ is. IfOk c.boxes.result (λ bs. sum_by box_pairs bs ≡ list_pairs (meanings_in c.args.self.now.objects is) c.args.list.now.lines)) c.scope.ensures.ifaces
    (subst (λ os. IfOk c.boxes.result (λ bs. sum_by box_pairs bs ≡ list_pairs (meanings_in os c.scope.result.ifaces.now) c.args.list.now.lines)) c.scope.ensures.objects
    (subst (λ ls. IfOk c.boxes.result (λ bs. sum_by box_pairs bs ≡ list_pairs (meanings_in c.scope.result.objects.now c.scope.result.ifaces.now) ls)) c.lines.ensures.value c.boxes.ensures.pairs))
