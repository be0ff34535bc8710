use Rattle.std.proofs.Common.{◌≡◌, ◌<◌, IsSomeAnd, Some, length, subst, sym, ap, ◌∙◌}
use Rattle.asa_acl_table.specs.Lists.{without_place}
use Rattle.asa_config.specs.contracts.config.Config.{the_view}
use Rattle.asa_config.specs.Settings.{list_among}
use Rattle.asa_config.specs.Names.{pair_count}
use Rattle.asa_config.specs.Lists as spec
use Rattle.asa_config.proofs.TakenLaws.{place_within, place_equal, kept_taken}
use Rattle.asa_config.proofs.config.Config.take_counted.Goals as goal

pub take-requires : goal.take-requires
take-requires c =
    place_within c.args.old.now.item (list_among c.self.inside.table c.args.old.now.list) c.args.place
    (subst (λ s. spec.place_in c.args.old.now.item (list_among s.lists c.args.old.now.list) ≡ Some c.args.place) (sym c.self.view_is) c.requires.found)

pub invariant_of-result : goal.invariant_of-result
invariant_of-result c =
    kept_taken c.self.inside.objects c.self.inside.net c.self.inside.table c.in_ok-table.table c.self.inside.pairs c.args.total c.self.inside.bound.items c.self.inside.global c.args.old.now.list c.args.place c.self.invariant c.in_ok-table.ensures
    (subst (λ s. c.args.total ≡ pair_count (spec.with_lists s (without_place s.lists c.args.place (list_among s.lists c.args.old.now.list)))) (sym c.self.view_is) c.requires.total) c.requires.few

pub returns : goal.returns
returns c =
    subst (λ s. spec.with_lists (the_view c.self.inside) c.in_ok-table.table ≡ spec.with_lists s (spec.without_line s.lists c.args.old.now.item (list_among s.lists c.args.old.now.list))) c.self.view_is
    (ap (spec.with_lists (the_view c.self.inside)) (c.in_ok-table.ensures
    ∙ place_equal c.self.inside.table c.args.old.now.item c.args.place (list_among c.self.inside.table c.args.old.now.list)
    (subst (λ s. spec.place_in c.args.old.now.item (list_among s.lists c.args.old.now.list) ≡ Some c.args.place) (sym c.self.view_is) c.requires.found)))
