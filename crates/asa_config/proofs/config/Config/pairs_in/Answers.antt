use Rattle.std.proofs.Common.{◌≡◌, IfOk, subst}
use Rattle.asa_acl_boxes.specs.Pairs.{list_pairs}
use Rattle.asa_acl_table.specs.Names.{meanings_in}
use Rattle.asa_config.proofs.config.Config.pairs_in.Goals as goal

pub returns : goal.returns
returns c =
    subst (λ is. IfOk c.list_pairs.result (λ n. n ≡ list_pairs (meanings_in c.args.self.now.objects is) c.args.acl.now.lines)) c.scope.ensures.ifaces
    (subst (λ os. IfOk c.list_pairs.result (λ n. n ≡ list_pairs (meanings_in os c.scope.result.ifaces.now) c.args.acl.now.lines)) c.scope.ensures.objects
    (subst (λ ls. IfOk c.list_pairs.result (λ n. n ≡ list_pairs (meanings_in c.scope.result.objects.now c.scope.result.ifaces.now) ls)) c.lines.ensures.value c.list_pairs.ensures.value))
