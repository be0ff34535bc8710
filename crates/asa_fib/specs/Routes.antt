-- Routes, and the best of those that reach an address.
use Rattle.std.specs.Prelude.{ℕ, Bool, ◌&&◌, ◌||◌, ◌==◌, nat_lt, List, [], ◌∷◌, filter, Option, Some, None, if◌then◌else◌}
use Rattle.std.specs.Option.{option_map}
use Rattle.asa_text.specs.declared.numbers.Addr.{Addr}
use Rattle.asa_base.specs.Networks.{Network, covers}
use Rattle.asa_fib.specs.declared.route.Way.{Way}

-- a prefix, a distance and a number
abbrev pub Route : Type 0
Route = Network × ℕ × ℕ

-- what a route is chosen by
abbrev pub way_of : Route → Way
way_of r = record { len = r.0.len; distance = r.1; number = r.2 }

-- the first way is better: by a longer prefix, then by a smaller distance, then by a smaller number
abbrev pub beats : Way → Way → Bool
beats a b = nat_lt b.len a.len || (a.len == b.len) && (nat_lt a.distance b.distance || (a.distance == b.distance) && nat_lt a.number b.number)

-- the better of two ways, where there are two
abbrev pub better : Option Way → Option Way → Option Way
better None b = b
better (Some a) None = Some a
better (Some a) (Some b) = Some (if beats b a then b else a)

-- the best of a list of routes
abbrev pub best_of : List Route → Option Way
best_of [] = None
best_of (r ∷ rs) = better (Some (way_of r)) (best_of rs)

-- the best of the routes whose prefix covers the address
abbrev pub best_covering : List Route → Addr → Option Way
best_covering routes a = best_of (filter (λ r. covers r.0 a) routes)

-- the number of the best route among those whose prefix covers the address
abbrev pub route_of : List Route → Addr → Option ℕ
route_of routes a = option_map (λ w. w.number) (best_covering routes a)
