use Rattle.std.proofs.Common.{◌≡◌, false, subst, sym}
use Rattle.asa_acl_table.specs.Lists.{without_list}
use Rattle.asa_config.specs.Names.{pair_count}
use Rattle.asa_config.specs.Lists.{with_lists}
use Rattle.asa_config.specs.Groups.{is_bound}
use Rattle.asa_config.proofs.TakenLaws.{kept_dropped}
use Rattle.asa_config.proofs.config.Config.drop_list.Goals as goal

pub invariant_of-self : goal.invariant_of-self
invariant_of-self c =
    kept_dropped c.self.inside.objects c.self.inside.net c.self.inside.table c.remove.new.self c.self.inside.pairs c.args.total c.self.inside.bound.items c.self.inside.global c.args.name.now c.self.invariant
    (subst (λ s. is_bound s c.args.name.now ≡ false) (sym c.self.view_is) c.requires.unbound) c.remove.ensures
    (subst (λ s. c.args.total ≡ pair_count (with_lists s (without_list s.lists c.args.name.now))) (sym c.self.view_is) c.requires.total) c.requires.few
