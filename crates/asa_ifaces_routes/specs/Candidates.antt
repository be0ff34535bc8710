-- The route of an address: of the candidates that cover it the one with the longest prefix; among those the nearest; among
-- those the first.
use Rattle.std.specs.Prelude.{ℕ, ◌+◌, List, [], ◌∷◌, ◌++◌, slice_get, Option, Some, None, option_to_list, option_and_then, if◌then◌else◌}
use Rattle.asa_text.specs.declared.numbers.Addr.{Addr}
use Rattle.asa_base.specs.Networks.{network_over}
use Rattle.asa_ifaces.specs.declared.iface.Iface.{Iface}
use Rattle.asa_ifaces.specs.declared.iface.RouteLine.{RouteLine}
use Rattle.asa_ifaces.specs.Interfaces.{Interfaces}
use Rattle.asa_fib.specs.Routes as fib
use Rattle.asa_flow.specs.declared.outcomes.Route.TheVariants.{Connected, Static}
use Rattle.asa_ifaces_routes.specs.declared.candidates.Candidate.{Candidate}

-- the network of interface n, where it is named, has an address and isn't shut down
unfoldable pub connected_of : ℕ → Iface → Option Candidate
connected_of n i = if i.shutdown then None else of_parts i.name i.addr
  where
    of_parts : Option (List ℕ) → Option (Addr × ℕ) → Option Candidate
    of_parts (Some _) (Some own) = Some (record { network = network_over own.0 own.1; distance = 0; route = Connected; egress = n })
    of_parts _ _ = None

-- the connected networks of these interfaces in order; the first of them has number n
abbrev pub connected_from : ℕ → List Iface → List Candidate
connected_from n [] = []
connected_from n (i ∷ more) = option_to_list (connected_of n i) ++ connected_from (n + 1) more

-- the n-th route line, from 1, unless its interface is shut down
unfoldable pub static_of : List Iface → ℕ → RouteLine → Option Candidate
static_of ifaces n r = of_iface (slice_get ifaces r.ifc)
  where
    of_iface : Option Iface → Option Candidate
    of_iface None = None
    of_iface (Some i) = if i.shutdown then None
        else Some (record { network = r.prefix; distance = r.distance; route = Static n; egress = r.ifc })

-- these route lines in order, of which the first is the n-th
abbrev pub static_from : List Iface → ℕ → List RouteLine → List Candidate
static_from ifaces n [] = []
static_from ifaces n (r ∷ more) = option_to_list (static_of ifaces n r) ++ static_from ifaces (n + 1) more

-- the connected networks of the interfaces in order, then the route lines in order
unfoldable pub candidates : Interfaces → List Candidate
candidates i = connected_from 0 i.ifaces ++ static_from i.ifaces 1 i.routes

-- candidates as routes to choose from: each has its place, from n on, as its number
abbrev pub offers_from : ℕ → List Candidate → List fib.Route
offers_from n [] = []
offers_from n (k ∷ ks) = (k.network, k.distance, n) ∷ offers_from (n + 1) ks

-- the best candidate among these
abbrev pub best_among : List Candidate → Addr → Option Candidate
best_among ks a = option_and_then (slice_get ks) (fib.route_of (offers_from 0 ks) a)

-- the route of an address, where there is one
unfoldable pub route_of : Interfaces → Addr → Option Candidate
route_of i a = best_among (candidates i) a
