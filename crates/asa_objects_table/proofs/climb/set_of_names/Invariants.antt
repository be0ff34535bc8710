use Rattle.std.proofs.Common.{◌≡◌, ℕ, List, take}
use Rattle.asa_objects_table.specs.Ranks.{has_name}
use Rattle.asa_objects_table.proofs.climb.set_of_names.Given as goal

abbrev pub invariant-loop-name : goal.invariant-loop-name
invariant-loop-name l = (q : List ℕ) → has_name l.set.keys q ≡ has_name (take l.name-index l.names) q
