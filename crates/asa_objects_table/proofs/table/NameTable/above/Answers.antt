use Rattle.std.proofs.Common.{is_some, ap, ◌∙◌}
use Rattle.asa_objects_values.specs.Tables.{Table, entry_of}
use Rattle.asa_objects_table.specs.Climbs.{IsAbove}
use Rattle.asa_objects_table.specs.Table.{AreAbove}
use Rattle.asa_objects_table.proofs.TableLaws.{above-there}
use Rattle.asa_objects_table.proofs.UseLaws.{if-ok}
use Rattle.asa_objects_table.proofs.table.NameTable.above.Goals as goal

pub above-requires-clause-there : goal.above-requires-clause-there
above-requires-clause-there c = c.self.invariant.ranked c.args.name.now ∙ ap (λ (t : Table). is_some (entry_of t c.args.name.now)) c.self.view_is ∙ c.requires

pub returns : goal.returns
returns c = if-ok (λ v. IsAbove c.self.inside.values.entries c.self.inside.index.ranks.entries c.args.name.now v.items) (λ v. AreAbove c.args.self.now c.args.name.now v.items) c.above.result c.above.ensures
    (λ v found. above-there c.self.inside.values.entries c.args.self.now c.self.inside.index.ranks.entries c.self.inside.index.uses.entries c.self.inside.index.stamp c.self.invariant c.self.view_is c.args.name.now v.items found)
