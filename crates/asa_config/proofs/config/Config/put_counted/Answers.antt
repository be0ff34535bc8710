use Rattle.std.proofs.Common.{◌≡◌, subst, sym}
use Rattle.asa_acl_table.specs.Lists.{put_in}
use Rattle.asa_config.specs.Settings.{list_among}
use Rattle.asa_config.specs.Names.{pair_count}
use Rattle.asa_config.specs.Lists.{with_lists}
use Rattle.asa_config.proofs.KeptLaws.{kept_put}
use Rattle.asa_config.proofs.config.Config.put_counted.Goals as goal

pub invariant_of-result : goal.invariant_of-result
invariant_of-result c =
    kept_put c.self.inside.objects c.self.inside.net c.self.inside.table c.in_ok-table.table c.self.inside.pairs c.args.total c.self.inside.bound.items c.self.inside.global c.args.new c.self.invariant c.in_ok-table.ensures
    (subst (λ s. c.args.total ≡ pair_count (with_lists s (put_in s.lists c.args.new (list_among s.lists c.args.new.list)))) (sym c.self.view_is) c.requires.total) c.requires.few
