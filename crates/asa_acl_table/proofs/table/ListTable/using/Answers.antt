use Rattle.std.proofs.Common.{sym, ap, ◌∙◌}
use Rattle.asa_acl.specs.Acls.{list_uses}
use Rattle.asa_acl_table.proofs.SearchLaws.{using_here, using_past}
use Rattle.asa_acl_table.proofs.table.ListTable.using.Goals as goal

pub returns-then-uses : goal.returns-then-uses
returns-then-uses c =
    using_here c.args.self.now c.args.name.now c.loop-i.i c.in-Some.list.now c.in-Some.ensures c.loop-i.invariant
    (ap (list_uses c.args.name.now) (sym c.acl.ensures) ∙ sym c.uses.ensures ∙ c.if-uses.true)

pub loop-i-preserved : goal.loop-i-preserved
loop-i-preserved c =
    using_past c.args.self.now c.args.name.now c.loop-i.i c.in-Some.list.now c.in-Some.ensures c.loop-i.invariant
    (ap (list_uses c.args.name.now) (sym c.acl.ensures) ∙ sym c.uses.ensures ∙ c.if-uses.false)
