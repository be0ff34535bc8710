use Rattle.std.proofs.Common.{◌≡◌, ◌*◌, ◌^◌, ◌≤◌, take}
use Rattle.asa_acl_table.specs.Names.{meanings_in, pairs_of_lists}
use Rattle.asa_acl_table.proofs.counts.count_lists.Given as goal

abbrev pub invariant-loop-i : goal.invariant-loop-i
invariant-loop-i l = (l.total ≡ pairs_of_lists (meanings_in l.scope.objects.now l.scope.ifaces.now) (take l.i l.table)) × (l.total ≤ l.i * (65536 * 2 ^ 92))
