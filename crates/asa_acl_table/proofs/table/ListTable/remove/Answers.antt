use Rattle.std.proofs.Common.{◌≡◌, ◌-◌, ℕ, List, sym, ap, ◌∙◌}
use Rattle.asa_acl_table.specs.Uses.{count_of, times_in_lines}
use Rattle.asa_acl_table.proofs.TableLaws.{table_removed, not_there}
use Rattle.asa_acl_table.proofs.table.ListTable.remove.Goals as goal

pub unreachable-requires : goal.unreachable-requires
unreachable-requires c = not_there _ _ _ c.self.invariant.keyed (sym c.self.view_is) c.requires (sym c.in_default.is ∙ c.shift_remove.ensures.value)

pub invariant_of-self : goal.invariant_of-self
invariant_of-self c = (table_removed c.self.inside.lists.entries c.shift_remove.new.self.entries c.self.inside.uses c.drop_lines.new.self c.args.self.now c.args.name.now c.in-Some.list c.self.invariant (sym c.self.view_is)
    (sym c.in-Some.is ∙ c.shift_remove.ensures.value) c.shift_remove.ensures.entries
    (λ q. c.drop_lines.ensures q ∙ ap (λ ls. count_of c.self.inside.uses q - times_in_lines q ls) (c.lines.ensures.value ∙ ap (λ l. l.lines) c.acl.ensures))).0

pub returns : goal.returns
returns c = (table_removed c.self.inside.lists.entries c.shift_remove.new.self.entries c.self.inside.uses c.drop_lines.new.self c.args.self.now c.args.name.now c.in-Some.list c.self.invariant (sym c.self.view_is)
    (sym c.in-Some.is ∙ c.shift_remove.ensures.value) c.shift_remove.ensures.entries
    (λ q. c.drop_lines.ensures q ∙ ap (λ ls. count_of c.self.inside.uses q - times_in_lines q ls) (c.lines.ensures.value ∙ ap (λ l. l.lines) c.acl.ensures))).1
