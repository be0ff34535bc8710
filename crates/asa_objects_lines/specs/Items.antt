-- What a member of a group gives among services, and how many prefixes it has among addresses.
use Rattle.std.specs.Prelude.{ℕ, List, [], ◌∷◌, Option, Some, None}
use Rattle.asa_base.specs.declared.kinds.PortProto.{PortProto}
use Rattle.asa_base.specs.declared.kinds.PortProto.TheVariants as ports
use Rattle.asa_base.specs.Ranges.{PortSpan, all_ports}
use Rattle.asa_base.specs.Prefixes.{member_prefix_count}
use Rattle.asa_base.specs.declared.boxes.Service.{Service}
use Rattle.asa_objects_lines.specs.declared.kinds.GroupKind.{GroupKind}
use Rattle.asa_objects_lines.specs.declared.kinds.GroupKind.TheVariants as group
use Rattle.asa_objects_lines.specs.declared.statement.Item.{Item}
use Rattle.asa_objects_lines.specs.declared.statement.Item.TheVariants as item
use Rattle.asa_objects_lines.specs.Services.{services_of}

-- the protocol of a word of ports; `tcp-udp` states none
abbrev pub proto_of_ports : PortProto → Option ℕ
proto_of_ports ports.Tcp = Some 6
proto_of_ports ports.Udp = Some 17
proto_of_ports ports.TcpUdp = None

-- the protocol of a group's ports
abbrev pub proto_of_group : GroupKind → Option ℕ
proto_of_group (group.Port ports) = proto_of_ports ports
proto_of_group _ = None

-- a service of one protocol, or of every, to these ports
abbrev pub service_to : Option ℕ → PortSpan → Service
service_to proto dport = record { proto = proto; sport = all_ports; dport = dport; itype = None; icode = None }

-- ICMP of one type
abbrev pub icmp_service : ℕ → Service
icmp_service itype = record { proto = Some 1; sport = all_ports; dport = all_ports; itype = Some itype; icode = None }

-- the services that a member of a group of that kind stands for by itself; a name stands for what it names
unfoldable pub item_services : GroupKind → Item → List Service
item_services g (item.Network _) = []
item_services g (item.Service value) = services_of value
item_services g (item.Port span) = service_to (proto_of_group g) span ∷ []
item_services g (item.Protocol proto) = service_to proto all_ports ∷ []
item_services g (item.IcmpType itype) = icmp_service itype ∷ []
item_services g (item.Object _) = []
item_services g (item.Group _) = []

-- how many networks the addresses of a member have by themselves
abbrev pub item_prefix_count : Item → ℕ
item_prefix_count (item.Network member) = member_prefix_count member
item_prefix_count (item.Service _) = 0
item_prefix_count (item.Port _) = 0
item_prefix_count (item.Protocol _) = 0
item_prefix_count (item.IcmpType _) = 0
item_prefix_count (item.Object _) = 0
item_prefix_count (item.Group _) = 0
