-- The lists of a configuration as they are compiled: which of them are, and at which sides each is bound.
use Rattle.std.specs.Prelude.{ℕ, Bool, false, ◌&&◌, ◌||◌, List, [], ◌∷◌, ◌++◌, filter, Option, Some, None, if◌then◌else◌}
use Rattle.std.specs.List.{list_any}
use Rattle.std.specs.Str.{bytes_eq}
use Rattle.asa_acl.specs.Acls.{AccessLines}
use Rattle.asa_config.specs.Settings.{Settings, bound_to}

-- the name, where there is one, is this
abbrev pub is_this : Option (List ℕ) → List ℕ → Bool
is_this None name = false
is_this (Some bound) name = bytes_eq bound name

-- the list of this name is bound to the side
abbrev pub is_bound_at : List ((ℕ × Bool) × List ℕ) → List ℕ → ℕ × Bool → Bool
is_bound_at bound name side = is_this (bound_to bound side) name

-- a side, where it counts
abbrev pub side_if : Bool → ℕ × Bool → List (ℕ × Bool)
side_if counts side = if counts then side ∷ [] else []

-- the binding names this list, and it is the one that counts at its side
abbrev pub binds : List ((ℕ × Bool) × List ℕ) → List ℕ → (ℕ × Bool) × List ℕ → Bool
binds bound name b = bytes_eq b.1 name && is_bound_at bound name b.0

-- the sides of some of the bindings that the list of this name is bound to
abbrev pub sides_among : List ((ℕ × Bool) × List ℕ) → List ℕ → List ((ℕ × Bool) × List ℕ) → List (ℕ × Bool)
sides_among bound name [] = []
sides_among bound name (b ∷ bs) = side_if (binds bound name b) b.0 ++ sides_among bound name bs

-- the sides that the list of this name is bound to
abbrev pub sides_of : List ((ℕ × Bool) × List ℕ) → List ℕ → List (ℕ × Bool)
sides_of bound name = sides_among bound name bound

-- some binding names this list
abbrev pub is_on_side : List ((ℕ × Bool) × List ℕ) → List ℕ → Bool
is_on_side bound name = list_any (λ b. bytes_eq b.1 name) bound

-- the list is bound to a side of an interface, or to the inbound side of every one
abbrev pub is_bound : Settings → AccessLines → Bool
is_bound c l = is_on_side c.bound l.name || is_this c.global l.name

-- those of these lists that are bound somewhere
abbrev pub bound_among : Settings → List AccessLines → List AccessLines
bound_among c ls = filter (is_bound c) ls
