-- What is found between is bound by the flow's input and source, and is missed only where nothing is.
use Rattle.std.proofs.Common.{sym, subst, ◌∙◌}
use Rattle.asa_pools.specs.Pools.{IsBoundBetween}
use Rattle.asa_pools.proofs.TableLaws.{bound_none, bound_some}
use Rattle.asa_pools.proofs.table.PortTable.bound_between.Goals as goal

pub returns-in_err-find : goal.returns-in_err-find
returns-in_err-find c =
    subst (IsBoundBetween c.args.self.now c.args.flow.now c.args.first c.args.last) (sym c.from_residual.ensures)
    (bound_none c.self.inside c.args.self.now c.self.view_is c.self.invariant c.args.flow.now c.args.first c.args.last c.find.result c.find.ensures c.in_err-find.was)

pub returns-in-Binding : goal.returns-in-Binding
returns-in-Binding c =
    bound_some c.self.inside c.args.self.now c.self.view_is c.self.invariant c.args.flow.now c.args.first c.args.last c.key.ensures.rows
    c.find.result c.in_ok-find.field-0 c.in-Binding.binding c.find.ensures c.in_ok-find.was (sym c.key.ensures.value ∙ c.in-Binding.is)
