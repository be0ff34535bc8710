use Rattle.std.proofs.Common.{arith, rules}
use Rattle.asa_objects_table.proofs.UseLaws.{use-more, use-part, on-err}
use Rattle.asa_objects_table.proofs.users.add_uses.Goals as goal

pub returns-in_err-add_use-clause-err : goal.returns-in_err-add_use-clause-err
returns-in_err-add_use-clause-err c = on-err _ c.from_residual.result
    (use-part c.args.uses.now.entries c.loop-name.uses.entries c.add_use.new.uses.entries c.args.user.now c.args.names.now c.loop-name.name-index c.loop-name.invariant c.in_err-add_use.ensures.err)

pub loop-name-preserved : goal.loop-name-preserved
loop-name-preserved c = use-more c.args.uses.now.entries c.loop-name.uses.entries c.add_use.new.uses.entries c.args.user.now c.args.names.now c.loop-name.name-index c.name-item.result
    (omega arith) (search rules) c.loop-name.invariant c.in_ok-add_use.ensures.ok
