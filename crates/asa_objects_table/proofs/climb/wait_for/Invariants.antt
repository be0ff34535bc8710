use Rattle.std.proofs.Common.{◌≡◌, ℕ}
use Rattle.std.specs.BTreeMap.{get}
use Rattle.std.specs.Ordering.{nat_cmp}
use Rattle.asa_objects_table.specs.Climbs.{waits}
use Rattle.asa_objects_table.specs.Ranks.{label_of}
use Rattle.asa_objects_table.proofs.climb.wait_for.Given as goal

abbrev pub invariant-loop-user : goal.invariant-loop-user
invariant-loop-user l = (n : ℕ) → waits (label_of l.ranks.entries) l.user-iterator n (get nat_cmp l.waiting n)
    ≡ waits (label_of l.ranks.entries) l.users.keys n (get nat_cmp l.initial.waiting n)
