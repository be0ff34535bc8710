-- Changes of which names refer to each name.
use Rattle.std.specs.Prelude.{◌≡◌, ℕ, ◌&&◌, ◌||◌, not, List, ◌++◌}
use Rattle.std.specs.List.{filter}
use Rattle.asa_objects_values.specs.Tables.{same_name}
use Rattle.asa_objects_table.specs.Ranks.{Uses, has_name, users_of}

-- one name refers to these others too
abbrev pub AreUsed : Uses → Uses → List ℕ → List (List ℕ) → Type 0
AreUsed old new user names = (q u : List ℕ) → has_name (users_of new q) u ≡ (has_name (users_of old q) u || (same_name user u && has_name names q))

-- one name refers to some of these others too
pub record IsPartUsed (old new : Uses) (user : List ℕ) (names : List (List ℕ)) : Type 0 where
  pub some : List (List ℕ)
  pub rest : List (List ℕ)
  pub split : names ≡ some ++ rest
  pub used : AreUsed old new user some

-- one name no longer refers to these others
abbrev pub AreUnused : Uses → Uses → List ℕ → List (List ℕ) → Type 0
AreUnused old new user names = (q u : List ℕ) → has_name (users_of new q) u ≡ (has_name (users_of old q) u && not (same_name user u && has_name names q))

-- those of these others that one name doesn't refer to
abbrev pub unused_in : Uses → List (List ℕ) → List ℕ → List (List ℕ)
unused_in uses names user = filter (λ q. not (has_name (users_of uses q) user)) names
