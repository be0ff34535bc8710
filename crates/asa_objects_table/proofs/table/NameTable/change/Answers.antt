use Rattle.std.proofs.Common.{◌≡◌, true, sym, subst}
use Rattle.std.specs.List.{AllByRecursion}
use Rattle.asa_objects_values.specs.Definition.{are_small}
use Rattle.asa_objects_values.specs.Drafts.{changed}
use Rattle.asa_objects_values.specs.Tables.{Table, items_of, named}
use Rattle.asa_objects_table.specs.Changes.{Fits}
use Rattle.asa_objects_table.proofs.TableLaws.{above-ranked, sound-small}
use Rattle.asa_objects_table.proofs.UseLaws.{always-ok}
use Rattle.asa_objects_table.proofs.table.NameTable.change.Goals as goal

pub change_summed-requires-clause-above : goal.change_summed-requires-clause-above
change_summed-requires-clause-above c = above-ranked c.self.inside.values.entries c.args.self.now c.self.inside.index.ranks.entries c.self.inside.index.uses.entries c.self.inside.index.stamp c.self.invariant c.self.view_is
    c.args.name.now c.args.above.now c.requires.above

pub change_summed-requires-clause-fits : goal.change_summed-requires-clause-fits
change_summed-requires-clause-fits c =
    subst (λ (t : Table). AllByRecursion (λ i. Fits t c.args.name.now (named i)) (changed (items_of t c.args.name.now) c.args.change.now.gone.keys c.args.change.now.added)) (sym c.self.view_is) c.requires.fits

pub returns-clause-small : goal.returns-clause-small
returns-clause-small c = always-ok (are_small c.change_summed.new.values.entries ≡ true) c.change_summed.result
    (sound-small c.change_summed.new.values.entries c.change_summed.new.index.ranks.entries c.change_summed.new.index.uses.entries c.change_summed.new.index.stamp c.change_summed.ensures.sound)
