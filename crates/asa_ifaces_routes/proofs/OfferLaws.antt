-- How many ways interfaces and route lines offer.
use Rattle.std.proofs.Common.{ℕ, ◌+◌, ◌≤◌, List, [], ◌∷◌, length, Option, Some, None, option_to_list, arith, length-append}
use Rattle.asa_ifaces.specs.declared.iface.Iface.{Iface}
use Rattle.asa_ifaces.specs.declared.iface.RouteLine.{RouteLine}
use Rattle.asa_ifaces.specs.Interfaces.{Interfaces}
use Rattle.asa_ifaces_routes.specs.Candidates.{connected_of, connected_from, static_of, static_from, candidates}

at_most_one : {X : Type 0} (o : Option X) → length (option_to_list o) ≤ 1
at_most_one None = omega arith
at_most_one (Some x) = omega arith

connected_few : (n : ℕ) (ifaces : List Iface) → length (connected_from n ifaces) ≤ length ifaces
connected_few n [] = omega arith
connected_few n (i ∷ more) =
    let e = length-append (option_to_list (connected_of n i)) (connected_from (n + 1) more) in
    omega (arith, e, at_most_one (connected_of n i), connected_few (n + 1) more)

static_few : (ifaces : List Iface) (n : ℕ) (routes : List RouteLine) → length (static_from ifaces n routes) ≤ length routes
static_few ifaces n [] = omega arith
static_few ifaces n (r ∷ more) =
    let e = length-append (option_to_list (static_of ifaces n r)) (static_from ifaces (n + 1) more) in
    omega (arith, e, at_most_one (static_of ifaces n r), static_few ifaces (n + 1) more)

pub candidates_few : (i : Interfaces) → length i.ifaces ≤ 64 → length i.routes ≤ 4096 → length (candidates i) ≤ 8192
unfolding candidates
candidates_few i few lines =
    let e = length-append (connected_from 0 i.ifaces) (static_from i.ifaces 1 i.routes) in
    omega (arith, e, connected_few 0 i.ifaces, static_few i.ifaces 1 i.routes)
