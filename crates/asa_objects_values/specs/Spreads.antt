-- What names give that lead to one another: each item of a name gives something by itself, and an item that refers to
-- a further name gives what the items of that name give, in its place.
use Rattle.std.specs.Prelude.{ℕ, ◌+◌, zero, suc, List, [], ◌∷◌, ◌++◌, Option, Some, None}
use Rattle.std.specs.List.{flat_map}

-- what stands behind a name, where an item refers to one
abbrev pub of_name : {X : Type 0} → (List ℕ → List X) → Option (List ℕ) → List X
of_name f None = []
of_name f (Some name) = f name

module _ {I X : Type 0} (named : I → Option (List ℕ)) (items : List ℕ → List I) (given : List ℕ → I → List X) where
  -- what a name gives by ways of at most so many names; once there are as many as names, no further way is left, since
  -- no name leads back to itself
  unfoldable pub spread : ℕ → List ℕ → List X
  spread zero name = []
  spread (suc n) name = flat_map (λ i. given name i ++ of_name (spread n) (named i)) (items name)

-- the sum of what each element weighs
abbrev pub total : {X : Type 0} → (X → ℕ) → List X → ℕ
total weight [] = 0
total weight (x ∷ xs) = weight x + total weight xs

-- what a name weighs, where there is one
abbrev pub weight_of : (List ℕ → ℕ) → Option (List ℕ) → ℕ
weight_of weight None = 0
weight_of weight (Some name) = weight name
