use Rattle.asa_objects_values.specs.Tables.{named}
use Rattle.asa_objects_table.proofs.UseLaws.{unuse-one, unuse-none}
use Rattle.asa_objects_table.proofs.users.drop_ref.Goals as goal

pub returns-in-Some : goal.returns-in-Some
returns-in-Some c = unuse-one c.args.uses.now.entries c.drop_use.new.uses.entries c.args.user.now c.in-Some.name.now (named c.args.item.now) c.in-Some.ensures c.drop_use.ensures

pub returns-in_default : goal.returns-in_default
returns-in_default c = unuse-none c.args.uses.now.entries c.args.user.now (named c.args.item.now) c.in_default.ensures
