-- The boxes of a list: one for each source, destination and service of each active line, in this order.
use Rattle.std.specs.Prelude.{ℕ, ◌+◌, Bool, true, false, not, ◌||◌, ◌==◌, List, [], ◌∷◌, ◌++◌, length, map, filter, flat_map, Option, Some, None, if◌then◌else◌}
use Rattle.asa_text.specs.declared.numbers.Addr.{Addr}
use Rattle.asa_base.specs.Ranges.{AddressSpan, PortSpan, only_address, all_addresses, network_span, all_ports}
use Rattle.asa_base.specs.Members.{member_range}
use Rattle.asa_base.specs.declared.boxes.Service.{Service}
use Rattle.asa_base.specs.declared.boxes.LineBox.{LineBox}
use Rattle.asa_acl_line.specs.declared.ace.AddrRef.{AddrRef}
use Rattle.asa_acl_line.specs.declared.ace.AddrRef.TheVariants as addr
use Rattle.asa_acl_line.specs.declared.ace.PortRef.{PortRef}
use Rattle.asa_acl_line.specs.declared.ace.PortRef.TheVariants as ports
use Rattle.asa_acl_line.specs.declared.ace.ServiceRef.{ServiceRef}
use Rattle.asa_acl_line.specs.declared.ace.ServiceRef.TheVariants as service
use Rattle.asa_acl_line.specs.declared.ace.Ace.{Ace}
use Rattle.asa_acl_line.specs.declared.ace.AclLine.{AclLine}
use Rattle.asa_acl_line.specs.declared.ace.AclLine.TheVariants as line
use Rattle.asa_acl_boxes.specs.Meanings.{Meanings}

-- the range of an address, where there is one
abbrev pub range_if_any : Option Addr → List AddressSpan
range_if_any None = []
range_if_any (Some a) = only_address a ∷ []

-- the ranges of a source or a destination, in order
abbrev pub ranges_of : Meanings → AddrRef → List AddressSpan
ranges_of m addr.Any = all_addresses ∷ []
ranges_of m addr.Nothing = []
ranges_of m (addr.Host a) = only_address a ∷ []
ranges_of m (addr.Net n) = network_span n ∷ []
ranges_of m (addr.Named name) = map member_range (m.members name)
ranges_of m (addr.Interface ifc) = range_if_any (m.address_of ifc)

-- the ranges of ports, in order
abbrev pub port_ranges_of : Meanings → PortRef → List PortSpan
port_ranges_of m ports.All = all_ports ∷ []
port_ranges_of m (ports.Ranges spans) = spans
port_ranges_of m (ports.Named name) = map (λ s. s.dport) (m.services name)

-- the line states these ports
abbrev pub states_ports : PortRef → Bool
states_ports ports.All = false
states_ports (ports.Ranges _) = true
states_ports (ports.Named _) = true

-- the protocols of a line with ports: its own, or those of its group's members
abbrev pub protocols_of : Meanings → Option (List ℕ) → Option ℕ → List (Option ℕ)
protocols_of m None own = own ∷ []
protocols_of m (Some group) _ = map (λ s. s.proto) (m.services group)

-- tcp or udp
abbrev pub has_ports : Option ℕ → Bool
has_ports None = false
has_ports (Some n) = (n == 6) || (n == 17)

-- source or destination ports are stated
abbrev pub states_any_ports : PortRef → PortRef → Bool
states_any_ports source dest = states_ports source || states_ports dest

-- all of these protocols, or tcp and udp alone
abbrev pub those_with_ports : Bool → List (Option ℕ) → List (Option ℕ)
those_with_ports alone protos = if alone then filter has_ports protos else protos

-- where ports are stated, tcp and udp alone give boxes
abbrev pub ported_protocols : Meanings → Option (List ℕ) → Option ℕ → PortRef → PortRef → List (Option ℕ)
ported_protocols m group own source dest = those_with_ports (states_any_ports source dest) (protocols_of m group own)

-- a protocol with its ports
abbrev pub with_ports : Option ℕ → PortSpan → PortSpan → Service
with_ports proto sport dport = record { proto = proto; sport = sport; dport = dport; itype = None; icode = None }

-- each protocol with each range of source ports and each of destination ports
abbrev pub all_with_ports : List (Option ℕ) → List PortSpan → List PortSpan → List Service
all_with_ports protos sports dports = flat_map (λ p. flat_map (λ s. map (λ d. with_ports p s d) dports) sports) protos

-- the services of a line, in order
abbrev pub services_of : Meanings → ServiceRef → List Service
services_of m (service.Plain s) = s ∷ []
services_of m (service.Named name) = m.services name
services_of m (service.Ported group own source dest) =
    all_with_ports (ported_protocols m group own source dest) (port_ranges_of m source) (port_ranges_of m dest)
services_of m (service.Icmp name) = m.services name

-- the box of one source, one destination and one service
abbrev pub box_of : ℕ → Bool → AddressSpan → AddressSpan → Service → LineBox
box_of n permit source dest service = record { source = source; dest = dest; service = service; line = n; permit = permit }

-- a box for each source, in it for each destination, in it for each service
abbrev pub all_boxes : ℕ → Bool → List AddressSpan → List AddressSpan → List Service → List LineBox
all_boxes n permit sources dests services = flat_map (λ s. flat_map (λ d. map (λ v. box_of n permit s d v) services) dests) sources

-- the entry is inactive, or it has no source, no destination or no service
abbrev pub is_boxless : Meanings → Ace → Bool
is_boxless m a = not a.active || (length (ranges_of m a.source) == 0) || (length (ranges_of m a.dest) == 0) || (length (services_of m a.service) == 0)

-- the boxes of an entry that is line n of its list; one that is inactive has none
unfoldable pub entry_boxes : Meanings → ℕ → Ace → List LineBox
entry_boxes m n a = if a.active then all_boxes n a.permit (ranges_of m a.source) (ranges_of m a.dest) (services_of m a.service) else []

-- the boxes of line n; a remark has none
unfoldable pub line_boxes : Meanings → ℕ → AclLine → List LineBox
line_boxes m n (line.Ace a) = entry_boxes m n a
line_boxes m n (line.Remark _) = []

-- the boxes of lines, of which the first is line n
unfoldable pub boxes_from : Meanings → ℕ → List AclLine → List LineBox
boxes_from m n [] = []
boxes_from m n (l ∷ ls) = line_boxes m n l ++ boxes_from m (n + 1) ls

-- the boxes of a list with these lines
abbrev pub boxes_of : Meanings → List AclLine → List LineBox
boxes_of m lines = boxes_from m 1 lines
