-- How the nodes grow while routes are compiled.
use Rattle.std.specs.Prelude.{◌≡◌, ℕ, ◌++◌, Bool, List, Option, Some}
use Rattle.std.specs.List.{All, Contains}
use Rattle.asa_text.specs.declared.numbers.Addr.{Addr}
use Rattle.asa_base.specs.Networks.{Network, is_prefix}
use Rattle.asa_trie.specs.Bits.{home_of}
use Rattle.asa_trie.specs.Tries.{Grown}
use Rattle.asa_fib.specs.declared.route.Way.{Way}
use Rattle.asa_fib.specs.declared.fib.FibNode.{FibNode}
use Rattle.asa_fib.specs.Routes.{Route, way_of, better, best_covering}
use Rattle.asa_fib.specs.Lookup.{ways, links, kept}

-- the prefix of a route
abbrev pub prefix_of : Route → Network
prefix_of r = r.0

-- what a single route is worth
abbrev pub value_of : Route → Option Way
value_of r = Some (way_of r)

-- the prefix of a route has at most 32 leading bits, and the bits after them are zero
abbrev pub is_whole : Route → Bool
is_whole r = is_prefix r.0.addr.0 r.0.len

-- the nodes have grown by those of the routes of one block, and keep as good a route to each address as these and the old ones are
pub record FibGrown (old new : List FibNode) (at levels : ℕ) (routes : List Route) : Type 0 where
  pub nodes : Grown ways links (λ n. n.best) prefix_of value_of (home_of prefix_of routes) old new at levels routes
  pub best : (a : Addr) → best_covering (kept new) a ≡ better (best_covering (kept old) a) (best_covering routes a)
  pub given : All (Contains (kept old ++ routes)) (kept new)
