-- Route lines: `[no] route I A M A [DISTANCE]`, where `0` stands for 0.0.0.0.
use Rattle.std.specs.Prelude.{ℕ, Bool, not, ◌&&◌, ◌||◌, ◌==◌, nat_lt, List, [], ◌∷◌, length, codes, is_none, Result, Ok, Err, if◌then◌else◌}
use Rattle.std.specs.List.{filter, list_any}
use Rattle.asa_text.specs.declared.lines.Line.{Line}
use Rattle.asa_text.specs.Words.{Left}
use Rattle.asa_text.specs.Readers.{Read, ◌>>=◌, next_word, next_is, unsupported_next, keyword_at, number_at, end_at}
use Rattle.asa_base.specs.Networks.{zero_or_address_at, route_network_at}
use Rattle.asa_base.specs.Readers.{interface_at}
use Rattle.asa_ifaces.specs.declared.iface.RouteLine.{RouteLine}
use Rattle.asa_ifaces.specs.declared.iface.IfaceFault.{IfaceFault}
use Rattle.asa_ifaces.specs.declared.iface.IfaceFault.TheVariants.{NoSuchLine, TooMany}
use Rattle.asa_ifaces.specs.Interfaces.{Interfaces, interface_of}
use Rattle.asa_ifaces.specs.Answers.{of_line, at_line, and_then}

-- the next word is one of the options of a route line, which this project leaves out
abbrev pub is_route_option : Left → Bool
is_route_option left = next_is (codes "tunneled") left || next_is (codes "track") left

-- the distance, 1 where the line ends before it
unfoldable pub distance_at : Left → Read ℕ
distance_at left =
    if is_route_option left then Err (unsupported_next left)
    else (if is_none (next_word left) then Ok (1, left) else number_at 1 255 left)

-- the line's end
unfoldable pub route_end_at : Left → Read (Unit {0})
route_end_at left = if is_route_option left then Err (unsupported_next left) else end_at left

-- a whole route line
unfoldable pub route_line : Interfaces → Left → Read RouteLine
route_line i left = do
  (_, left) ← keyword_at (codes "route") left
  (ifc, left) ← interface_at (interface_of i) left
  (network, left) ← route_network_at left
  (gateway, left) ← zero_or_address_at left
  (distance, left) ← distance_at left
  (_, left) ← route_end_at left
  Ok (record { ifc = ifc; prefix = network; gateway = gateway; distance = distance }, left)

-- a whole line that removes a route
unfoldable pub no_route_line : Interfaces → Left → Read RouteLine
no_route_line i left = do
  (_, left) ← keyword_at (codes "no") left
  route_line i left

-- the two lines are equal but for their distances
abbrev pub same_route : RouteLine → RouteLine → Bool
same_route a b = (a.ifc == b.ifc) && (a.prefix.addr.0 == b.prefix.addr.0) && (a.prefix.len == b.prefix.len) && (a.gateway.0 == b.gateway.0)

-- a line takes the place of the one that it equals but for the distance, or goes last
abbrev pub with_route : List RouteLine → RouteLine → List RouteLine
with_route [] r = r ∷ []
with_route (q ∷ qs) r = if same_route q r then r ∷ qs else q ∷ with_route qs r

-- one of the lines equals this one but for the distance
abbrev pub has_route : List RouteLine → RouteLine → Bool
has_route qs r = list_any (λ q. same_route q r) qs

-- the lines without the one that this one equals but for the distance
abbrev pub without_route : List RouteLine → RouteLine → List RouteLine
without_route qs r = filter (λ q. not (same_route q r)) qs

-- the routes after a line has taken its place; the 4,097th is one too many
unfoldable pub routes_with : List RouteLine → RouteLine → Result (List RouteLine) IfaceFault
routes_with qs r = if nat_lt 4096 (length (with_route qs r)) then Err TooMany else Ok (with_route qs r)

-- the routes after a line is removed
unfoldable pub routes_without : List RouteLine → RouteLine → Result (List RouteLine) IfaceFault
routes_without qs r = if has_route qs r then Ok (without_route qs r) else Err NoSuchLine

-- what is configured with these routes
abbrev pub with_routes : Interfaces → List RouteLine → Interfaces
with_routes i routes = record i { routes = routes }

-- what is configured after a route is stated
unfoldable pub route_added : Interfaces → RouteLine → Result Interfaces IfaceFault
route_added i r = and_then (routes_with i.routes r) (λ routes. Ok (with_routes i routes))

-- what is configured after a route is removed
unfoldable pub route_removed : Interfaces → RouteLine → Result Interfaces IfaceFault
route_removed i r = and_then (routes_without i.routes r) (λ routes. Ok (with_routes i routes))

-- what is configured after a line `route ..`
unfoldable pub route_step : Interfaces → Line → Result Interfaces IfaceFault
route_step i l = and_then (at_line 1 (of_line (route_line i) l)) (route_added i)

-- what is configured after a line `no route ..`
unfoldable pub no_route_step : Interfaces → Line → Result Interfaces IfaceFault
no_route_step i l = and_then (at_line 1 (of_line (no_route_line i) l)) (route_removed i)
