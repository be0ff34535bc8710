use Rattle.std.proofs.Common.{take}
use Rattle.asa_objects_table.specs.Users.{AreUsed}
use Rattle.asa_objects_table.proofs.users.add_uses.Given as goal

abbrev pub invariant-loop-name : goal.invariant-loop-name
invariant-loop-name l = AreUsed l.initial.uses.entries l.uses.entries l.user (take l.name-index l.names)
