use Rattle.std.proofs.Common.{refl, sym, ap, ◌∙◌}
use Rattle.asa_acl_table.specs.Lists.{list_of}
use Rattle.asa_acl_table.proofs.TableLaws.{table_begun}
use Rattle.asa_acl_table.proofs.table.ListTable.begin.Goals as goal

pub invariant_of-self : goal.invariant_of-self
invariant_of-self c = (table_begun c.self.inside.lists.entries c.insert.new.self.entries c.self.inside.uses c.add_line.new.self c.args.self c.args.name c.args.item c.in_ok-list.list c.args.name c.self.invariant (sym c.self.view_is)
    c.requires.absent c.requires.room c.in_ok-add_line.ensures refl (c.in_ok-list.ensures ∙ ap (λ n. list_of n c.args.item) c.copy.ensures) c.in_ok-insert.ensures.entries).0

pub returns : goal.returns
returns c = (table_begun c.self.inside.lists.entries c.insert.new.self.entries c.self.inside.uses c.add_line.new.self c.args.self c.args.name c.args.item c.in_ok-list.list c.args.name c.self.invariant (sym c.self.view_is)
    c.requires.absent c.requires.room c.in_ok-add_line.ensures refl (c.in_ok-list.ensures ∙ ap (λ n. list_of n c.args.item) c.copy.ensures) c.in_ok-insert.ensures.entries).1
