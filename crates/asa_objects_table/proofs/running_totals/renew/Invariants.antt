use Rattle.std.proofs.Common.{take}
use Rattle.asa_objects_values.specs.Tables.{Table}
use Rattle.asa_objects_table.specs.RunningTotals.{AreRunning}
use Rattle.asa_objects_table.specs.Renewals.{IsRenewed, AreSmall, IsTold}
use Rattle.asa_objects_table.proofs.running_totals.renew.Given as goal

abbrev pub invariant-loop-name : goal.invariant-loop-name
invariant-loop-name l = (after : Table) → IsTold l.values.entries after l.index.ranks.entries l.changed l.told l.names
    → IsRenewed after l.index.ranks.entries l.index.stamp (take l.name-index l.names) l.new.entries l.label × AreSmall l.new.entries × AreRunning after l.new.entries l.index.ranks.entries l.changed l.sums.entries
