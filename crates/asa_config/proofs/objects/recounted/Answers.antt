use Rattle.std.proofs.Common.{◌≡◌, ◌<◌, ◌≤◌, subst, ap, ◌∙◌}
use Rattle.asa_acl_table.specs.Names.{meanings_in, pairs_of_lists}
use Rattle.asa_config.proofs.ObjectLaws.{many_counted}
use Rattle.asa_config.proofs.objects.recounted.Goals as goal

pub returns-then-total-gt-MOST_PAIRS : goal.returns-then-total-gt-MOST_PAIRS
returns-then-total-gt-MOST_PAIRS c =
    many_counted c.too_large.result c.in_ok-total.total (pairs_of_lists (meanings_in c.args.objects.now c.args.net.now.ifaces) c.args.table.now) c.too_large.ensures
    (c.in_ok-total.ensures ∙ ap (λ is. pairs_of_lists (meanings_in c.args.objects.now is) c.args.table.now) c.ifaces.ensures.value)
    c.if-total-gt-MOST_PAIRS.true
