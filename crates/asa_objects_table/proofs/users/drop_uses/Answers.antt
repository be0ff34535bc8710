use Rattle.std.proofs.Common.{arith, rules}
use Rattle.asa_objects_table.proofs.UseLaws.{unuse-more}
use Rattle.asa_objects_table.proofs.users.drop_uses.Goals as goal

pub loop-name-preserved : goal.loop-name-preserved
loop-name-preserved c = unuse-more c.args.uses.now.entries c.loop-name.uses.entries c.drop_use.new.uses.entries c.args.user.now c.args.names.now c.loop-name.name-index c.name-item.result
    (omega arith) (search rules) c.loop-name.invariant c.drop_use.ensures
