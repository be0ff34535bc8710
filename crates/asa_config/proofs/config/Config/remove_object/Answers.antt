use Rattle.std.proofs.Common.{◌≡◌, ◌≤◌, None, Ok, subst, sym, ap, ◌∙◌}
use Rattle.asa_objects_values.specs.Tables.{without_name}
use Rattle.asa_config.specs.contracts.config.Config.{the_view}
use Rattle.asa_config.specs.Names.{pair_count}
use Rattle.asa_config.specs.Objects.{list_using, with_objects, changed}
use Rattle.asa_config.proofs.ObjectLaws.{kept_objects}
use Rattle.asa_config.proofs.ApartLaws.{pairs_same, fits_same, rest_keeps}
use Rattle.asa_config.proofs.config.Config.remove_object.Goals as goal

pub invariant_of-self : goal.invariant_of-self
invariant_of-self c =
    kept_objects c.self.inside.objects c.remove-there.new.self c.self.inside.net c.self.inside.table c.self.inside.pairs c.self.inside.pairs c.self.inside.bound.items c.self.inside.global c.self.invariant
    (c.self.invariant.counted ∙ sym (pairs_same c.self.inside.objects c.remove-there.new.self c.self.inside.net.ifaces c.self.inside.table
    (rest_keeps (the_view c.self.inside) c.args.name.now c.remove-there.new.self (subst (λ s. list_using s.lists c.args.name.now ≡ None) (sym c.self.view_is) c.requires.list) c.remove-there.ensures.kept)))
    c.self.invariant.few

pub returns-clause-value : goal.returns-clause-value
returns-clause-value c =
    subst (λ s. with_objects (the_view c.self.inside) c.remove-there.new.self ≡ with_objects s (without_name s.objects c.args.name.now)) c.self.view_is
    (ap (with_objects (the_view c.self.inside)) c.remove-there.ensures.value)

pub returns-clause-fits : goal.returns-clause-fits
returns-clause-fits c =
    subst (λ s. changed s (without_name s.objects c.args.name.now) ≡ Ok (with_objects (the_view c.self.inside) c.remove-there.new.self)) c.self.view_is
    (ap (changed (the_view c.self.inside)) (sym c.remove-there.ensures.value)
    ∙ fits_same (the_view c.self.inside) c.remove-there.new.self
    (rest_keeps (the_view c.self.inside) c.args.name.now c.remove-there.new.self (subst (λ s. list_using s.lists c.args.name.now ≡ None) (sym c.self.view_is) c.requires.list) c.remove-there.ensures.kept)
    (subst (λ s. pair_count s ≤ 262144) (sym c.self.view_is) (subst (λ n. n ≤ 262144) c.pair_count-pairs.ensures.value c.pair_count-pairs.ensures.few)))
