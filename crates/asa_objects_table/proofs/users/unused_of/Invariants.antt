use Rattle.std.proofs.Common.{◌≡◌, ◌++◌, drop}
use Rattle.asa_objects_table.specs.Users.{unused_in}
use Rattle.asa_objects_table.proofs.users.unused_of.Given as goal

abbrev pub invariant-loop-name : goal.invariant-loop-name
invariant-loop-name l = l.unused.items ++ unused_in l.uses.entries (drop l.name-index l.names) l.user ≡ unused_in l.uses.entries l.names l.user
