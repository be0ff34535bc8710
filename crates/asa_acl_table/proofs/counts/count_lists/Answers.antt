use Rattle.std.proofs.Common.{◌≡◌, ap, ◌∙◌, arith}
use Rattle.asa_acl_boxes.specs.Pairs.{list_pairs}
use Rattle.asa_acl_table.specs.Names.{meanings_in}
use Rattle.asa_acl_table.proofs.TableLaws.{total_more}
use Rattle.asa_acl_table.proofs.counts.count_lists.Goals as goal

pub loop-i-preserved : goal.loop-i-preserved
loop-i-preserved c = (
  total_more (meanings_in c.args.scope.now.objects.now c.args.scope.now.ifaces.now) c.args.table.now c.loop-i.i c.in_ok-pairs.pairs c.loop-i.total c.in-Some.list.now c.in-Some.ensures c.loop-i.invariant.0
      (c.in_ok-pairs.ensures.value ∙ ap (list_pairs (meanings_in c.args.scope.now.objects.now c.args.scope.now.ifaces.now)) (c.lines.ensures.value ∙ ap (λ l. l.lines) c.acl.ensures)),
  omega (arith, c.loop-i.invariant.1, c.in_ok-pairs.ensures.few),
)
