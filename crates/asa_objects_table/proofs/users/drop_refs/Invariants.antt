use Rattle.std.proofs.Common.{◌≡◌, ℕ, List, ◌&&◌, not}
use Rattle.asa_objects_table.specs.Ranks.{has_name, users_of}
use Rattle.asa_objects_values.specs.Tables.{same_name, refs_in}
use Rattle.asa_objects_table.proofs.users.drop_refs.Given as goal

abbrev pub invariant-loop-item : goal.invariant-loop-item
invariant-loop-item l = (q u : List ℕ) → (has_name (users_of l.uses.entries q) u && not (same_name l.user u && has_name (refs_in l.item-iterator) q))
    ≡ (has_name (users_of l.initial.uses.entries q) u && not (same_name l.user u && has_name (refs_in l.items) q))
