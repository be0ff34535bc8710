use Rattle.std.proofs.Common.{◌≡◌, IfOk, subst, ap, ◌∙◌}
use Rattle.std.proofs.lemmas.Result.{IfOk-weaker}
use Rattle.asa_acl_table.specs.Names.{meanings_in, pairs_of_lists}
use Rattle.asa_config.specs.Names.{pair_count}
use Rattle.asa_config.specs.Net.{with_net}
use Rattle.asa_config.proofs.config.Config.count_under.Goals as goal

pub returns : goal.returns
returns c =
    subst (λ s. IfOk c.count_lists.result (λ n. n ≡ pair_count (with_net s c.args.net.now))) c.self.view_is
    (IfOk-weaker c.count_lists.result _ _ (λ n h. h ∙ ap (λ is. pairs_of_lists (meanings_in c.self.inside.objects is) c.self.inside.table) c.ifaces.ensures.value) c.count_lists.ensures)
