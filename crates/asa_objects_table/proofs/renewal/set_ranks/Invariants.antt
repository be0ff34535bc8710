use Rattle.std.proofs.Common.{◌≡◌, ℕ, List, cond, take}
use Rattle.asa_objects_table.specs.Ranks.{has_name, rank_of}
use Rattle.asa_objects_table.specs.Renewals.{newer}
use Rattle.asa_objects_table.proofs.renewal.set_ranks.Given as goal

abbrev pub invariant-loop-name : goal.invariant-loop-name
invariant-loop-name l = (q : List ℕ) → rank_of l.ranks.entries q ≡ cond (has_name (take l.name-index l.names) q) (newer (rank_of l.new.entries q) (rank_of l.initial.ranks.entries q)) (rank_of l.initial.ranks.entries q)
