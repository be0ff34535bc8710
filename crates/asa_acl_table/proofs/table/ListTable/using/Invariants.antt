use Rattle.std.proofs.Common.{◌≡◌, drop}
use Rattle.asa_acl_table.specs.Lists.{first_using}
use Rattle.asa_acl_table.proofs.table.ListTable.using.Given as goal

abbrev pub invariant-loop-i : goal.invariant-loop-i
invariant-loop-i l = first_using (drop l.i l.self) l.name ≡ first_using l.self l.name
