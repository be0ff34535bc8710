use Rattle.std.proofs.Common.{sym}
use Rattle.asa_acl_table.proofs.TableLaws.{there_of, table_put}
use Rattle.asa_acl_table.proofs.table.ListTable.put_there.Goals as goal

pub put_into-requires-clause-room : goal.put_into-requires-clause-room
put_into-requires-clause-room c = there_of _ _ _ _ c.self.invariant.keyed (sym c.self.view_is) c.requires.room

pub invariant_of-self : goal.invariant_of-self
invariant_of-self c = (table_put c.self.inside.lists.entries c.put_into.new.lists.entries c.self.inside.uses c.add_line.new.self c.args.self c.args.name.now c.args.place c.args.item _ c.self.invariant (sym c.self.view_is) c.requires.room
    c.in_ok-add_line.ensures c.in_ok-put_into.ensures).0

pub returns : goal.returns
returns c = (table_put c.self.inside.lists.entries c.put_into.new.lists.entries c.self.inside.uses c.add_line.new.self c.args.self c.args.name.now c.args.place c.args.item _ c.self.invariant (sym c.self.view_is) c.requires.room
    c.in_ok-add_line.ensures c.in_ok-put_into.ensures).1
