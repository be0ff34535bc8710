-- What the table of names has of its order, as its callers see it.
use Rattle.std.specs.Prelude.{◌≡◌, ℕ, true, List, is_some}
use Rattle.std.specs.List.{AllByRecursion}
use Rattle.asa_objects_values.specs.Tables.{Table, entry_of, reaches}
use Rattle.asa_objects_table.specs.Climbs.{IsLaid}
use Rattle.asa_objects_table.specs.Ranks.{IsSound, Ranks, Uses, has_name}

-- each name that is referred to is there, some order of the names falls along the references, and each name stands for no more
-- than the limits allow
pub record IsOrdered (t : Table) : Type 0 where
  pub ranks : Ranks
  pub uses : Uses
  pub stamp : ℕ
  pub sound : IsSound t ranks uses stamp

-- the names that reach a name, each after those of them that it refers to
pub record AreAbove (t : Table) (name : List ℕ) (names : List (List ℕ)) : Type 0 where
  pub there : AllByRecursion (λ q. is_some (entry_of t q) ≡ true) names
  pub order : List ℕ → ℕ
  pub laid : IsLaid t order names
  pub whole : (q : List ℕ) → has_name names q ≡ reaches t q name
