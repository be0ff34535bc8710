use Rattle.std.proofs.Common.{sym}
use Rattle.asa_acl_table.proofs.TableLaws.{there_of, table_taken}
use Rattle.asa_acl_table.proofs.table.ListTable.take.Goals as goal

pub drop_from-requires : goal.drop_from-requires
drop_from-requires c = there_of _ _ _ _ c.self.invariant.keyed (sym c.self.view_is) c.requires

pub take_from-requires : goal.take_from-requires
take_from-requires c = there_of _ _ _ _ c.self.invariant.keyed (sym c.self.view_is) c.requires

pub invariant_of-self : goal.invariant_of-self
invariant_of-self c = (table_taken c.self.inside.lists.entries c.take_from.new.lists.entries c.self.inside.uses c.drop_from.new.uses c.args.self c.args.name.now c.args.place c.self.invariant (sym c.self.view_is) c.requires
    c.drop_from.ensures c.in_ok-take_from.ensures).0

pub returns : goal.returns
returns c = (table_taken c.self.inside.lists.entries c.take_from.new.lists.entries c.self.inside.uses c.drop_from.new.uses c.args.self c.args.name.now c.args.place c.self.invariant (sym c.self.view_is) c.requires
    c.drop_from.ensures c.in_ok-take_from.ensures).1
