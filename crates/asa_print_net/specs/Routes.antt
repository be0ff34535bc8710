-- The printed line of a route, with the name of the interface by which it leaves, and with its distance.
use Rattle.std.specs.Prelude.{◌≡◌, ℕ, ◌^◌, ◌<◌, ◌≤◌, true, List, [], ◌∷◌, codes, decimal, Some}
use Rattle.asa_text.specs.Printed.{dotted}
use Rattle.asa_base.specs.Names.{is_name}
use Rattle.asa_base.specs.Networks.{is_prefix}
use Rattle.asa_ifaces.specs.declared.iface.RouteLine.{RouteLine}
use Rattle.asa_ifaces.specs.Interfaces.{Interfaces, interface_of}
use Rattle.asa_print_text.specs.Words.{mask_addr, printed_top}

abbrev pub route_words : List ℕ → RouteLine → List (List ℕ)
route_words name r = codes "route" ∷ name ∷ dotted r.prefix.addr ∷ dotted (mask_addr r.prefix.len) ∷ dotted r.gateway ∷ decimal r.distance ∷ []

unfoldable pub route_text : List ℕ → RouteLine → List ℕ
route_text name r = printed_top (route_words name r)

-- a route that can be configured, of which the interface has this name
pub record CanRoute (i : Interfaces) (name : List ℕ) (r : RouteLine) : Type 0 where
  pub is_named : is_name name ≡ true
  pub leaves : interface_of i name ≡ Some r.ifc
  pub small : r.prefix.addr.0 < 2 ^ 32
  pub whole : is_prefix r.prefix.addr.0 r.prefix.len ≡ true
  pub gateway : r.gateway.0 < 2 ^ 32
  pub least : 1 ≤ r.distance
  pub greatest : r.distance ≤ 255
