-- The routes that the nodes of a compiled table keep, and what a walk finds in them.
use Rattle.std.specs.Prelude.{◌≡◌, ℕ, List, [], ◌∷◌, ◌++◌, length, Option, None}
use Rattle.std.specs.Option.{option_map, option_to_list}
use Rattle.asa_text.specs.declared.numbers.Addr.{Addr}
use Rattle.asa_trie.specs.Tries.{Joining, Links, walk, IsTrie}
use Rattle.asa_fib.specs.declared.route.Way.{Way}
use Rattle.asa_fib.specs.declared.fib.FibNode.{FibNode}
use Rattle.asa_fib.specs.Routes.{Route, better, route_of}

-- of two ways the better one
abbrev pub ways : Joining (Option Way)
ways = record { op = better; unit = None }

abbrev pub links : Links FibNode
links = record { prefix_of = λ n. n.prefix; left_of = λ n. n.left; right_of = λ n. n.right }

-- the best way of the nodes that cover the address; the last node is the root
abbrev pub found : List FibNode → Addr → Option ℕ
found nodes a = option_map (λ w. w.number) (walk ways links (λ n. n.best) nodes 33 (length nodes) a.0)

-- the route of a node: its prefix with the best way of just this prefix, where it has one
abbrev pub own_route : FibNode → Option Route
own_route n = option_map (λ w. (n.prefix, w.distance, w.number)) n.best

-- the routes of the nodes in order
abbrev pub kept : List FibNode → List Route
kept [] = []
kept (n ∷ more) = option_to_list (own_route n) ++ kept more

-- a trie in which a walk finds the best of the routes that its nodes keep
pub record IsFib (nodes : List FibNode) : Type 0 where
  pub trie : IsTrie links nodes
  pub finds : (a : Addr) → found nodes a ≡ route_of (kept nodes) a
