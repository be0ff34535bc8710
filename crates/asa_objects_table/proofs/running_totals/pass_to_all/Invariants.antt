use Rattle.std.proofs.Common.{◌≡◌, ℕ, ◌+◌, ◌*◌, List}
use Rattle.asa_objects_table.specs.Ranks.{Part, amount}
use Rattle.asa_objects_table.specs.RunningTotals.{sum_now}
use Rattle.asa_objects_table.specs.Renewals.{times_among}
use Rattle.asa_objects_table.proofs.running_totals.pass_to_all.Given as goal

abbrev pub invariant-loop-user : goal.invariant-loop-user
invariant-loop-user l = (q : List ℕ) (k : Part) → amount k (sum_now l.sums.entries l.ranks.entries q) + times_among l.values.entries l.name l.user-iterator q * amount k l.new + times_among l.values.entries l.name l.users.keys q * amount k l.old
    ≡ amount k (sum_now l.initial.sums.entries l.ranks.entries q) + times_among l.values.entries l.name l.users.keys q * amount k l.new + times_among l.values.entries l.name l.user-iterator q * amount k l.old
