use Rattle.asa_objects_table.proofs.TableLaws.{sound-ordered}
use Rattle.asa_objects_table.proofs.table.NameTable.order.Goals as goal

pub returns : goal.returns
returns c = sound-ordered c.self.inside.values.entries c.args.self.now c.self.inside.index.ranks.entries c.self.inside.index.uses.entries c.self.inside.index.stamp c.self.invariant c.self.view_is
