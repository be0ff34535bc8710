-- What `service ..` of a service object and `service-object ..` of a group state, and the services that it stands for.
use Rattle.std.specs.Prelude.{ℕ, Bool, true, false, ◌==◌, List, [], ◌∷◌, map, Option, Some, None, if◌then◌else◌}
use Rattle.std.specs.List.{flat_map}
use Rattle.asa_base.specs.Ranges.{PortSpan, all_ports}
use Rattle.asa_base.specs.declared.boxes.Service.{Service}
use Rattle.asa_objects_lines.specs.declared.service_value.ServiceProtocol.{ServiceProtocol}
use Rattle.asa_objects_lines.specs.declared.service_value.ServiceProtocol.TheVariants.{Every, TcpUdp, One}
use Rattle.asa_objects_lines.specs.declared.service_value.ServiceValue.{ServiceValue}

-- every port, where none are stated
abbrev pub every_port : List PortSpan
every_port = all_ports ∷ []

-- the protocols that a word stands for, tcp before udp; every protocol is a service that states none
abbrev pub protocols_of : ServiceProtocol → List (Option ℕ)
protocols_of Every = None ∷ []
protocols_of TcpUdp = Some 6 ∷ Some 17 ∷ []
protocols_of (One proto) = Some proto ∷ []

-- the service of one protocol, one range of source ports and one of destination ports
abbrev pub service_part : ServiceValue → Option ℕ → PortSpan → PortSpan → Service
service_part v proto sport dport = record { proto = proto; sport = sport; dport = dport; itype = v.itype; icode = v.icode }

-- the services of one protocol and one range of source ports, by destination range
abbrev pub services_to : ServiceValue → Option ℕ → PortSpan → List Service
services_to v proto sport = map (service_part v proto sport) v.dest

-- the services of one protocol, by source range
abbrev pub services_from : ServiceValue → Option ℕ → List Service
services_from v proto = flat_map (services_to v proto) v.source

-- the services that a value stands for: by protocol, then source range, then destination range
unfoldable pub services_of : ServiceValue → List Service
services_of v = flat_map (services_from v) (protocols_of v.protocol)

-- a protocol that has ports
abbrev pub has_ports : ServiceProtocol → Bool
has_ports Every = false
has_ports TcpUdp = true
has_ports (One proto) = if proto == 6 then true else proto == 17

-- tcp alone, or udp alone
abbrev pub is_one_with_ports : ServiceProtocol → Bool
is_one_with_ports Every = false
is_one_with_ports TcpUdp = false
is_one_with_ports (One proto) = if proto == 6 then true else proto == 17

-- the only element of a list
abbrev pub only_of : {X : Type 0} → List X → Option X
only_of [] = None
only_of (x ∷ []) = Some x
only_of (x ∷ y ∷ more) = None

-- the service of a value of tcp alone or udp alone that stands for one service
unfoldable pub single_service : ServiceValue → Option Service
single_service v = if is_one_with_ports v.protocol then only_of (services_of v) else None
