-- The names that reach a name, each after those of them that it refers to.
use Rattle.std.specs.Prelude.{◌≡◌, ℕ, ◌==◌, ◌<◌, true, List, [], ◌∷◌, Option, Some, None, is_some, if◌then◌else◌}
use Rattle.std.specs.List.{AllByRecursion}
use Rattle.asa_objects_values.specs.Tables.{Table, items_of, named, reaches}
use Rattle.asa_objects_table.specs.Ranks.{Ranks, label_of, rank_of, has_name}

-- what waits at n after each of these names is put at its label
abbrev pub waits : (List ℕ → ℕ) → List (List ℕ) → ℕ → Option (List ℕ) → Option (List ℕ)
waits label [] n o = o
waits label (u ∷ us) n o = waits label us n (if label u == n then Some u else o)

-- labels rise along the names
abbrev pub Rises : (List ℕ → ℕ) → List (List ℕ) → Type 0
Rises label [] = Unit {0}
Rises label (q ∷ qs) = AllByRecursion (λ r. label q < label r) qs × Rises label qs

-- the names that reach a name, by rising labels
pub record IsAbove (t : Table) (ranks : Ranks) (name : List ℕ) (names : List (List ℕ)) : Type 0 where
  pub there : AllByRecursion (λ q. is_some (rank_of ranks q) ≡ true) names
  pub rising : Rises (label_of ranks) names
  pub whole : (q : List ℕ) → has_name names q ≡ reaches t q name

-- a name among these that is referred to comes earlier
abbrev pub IsInner : List (List ℕ) → (List ℕ → ℕ) → ℕ → Option (List ℕ) → Type 0
IsInner names order n None = Unit {0}
IsInner names order n (Some name) = has_name names name ≡ true → order name < n

-- names in an order along which references lead from later to earlier ones
pub record IsLaid (t : Table) (order : List ℕ → ℕ) (names : List (List ℕ)) : Type 0 where
  pub rising : Rises order names
  pub inner : (q : List ℕ) → has_name names q ≡ true → AllByRecursion (λ i. IsInner names order (order q) (named i)) (items_of t q)

-- the names that reach a name, each after those of them that it refers to
pub record AreReaching (t : Table) (ranks : Ranks) (name : List ℕ) (names : List (List ℕ)) : Type 0 where
  pub there : AllByRecursion (λ q. is_some (rank_of ranks q) ≡ true) names
  pub order : List ℕ → ℕ
  pub laid : IsLaid t order names
  pub whole : (q : List ℕ) → has_name names q ≡ reaches t q name
