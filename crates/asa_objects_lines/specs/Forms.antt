-- What a line can say in a block, whatever its words are: the forms of values and of members.
use Rattle.std.specs.Prelude.{◌≡◌, Bool, true, false, ◌==◌, IsTrue, None}
use Rattle.asa_base.specs.declared.range.Member.{Member}
use Rattle.asa_base.specs.declared.range.Member.TheVariants as network
use Rattle.asa_objects_lines.specs.declared.service_value.ServiceProtocol.{ServiceProtocol}
use Rattle.asa_objects_lines.specs.declared.service_value.ServiceProtocol.TheVariants.{Every, TcpUdp, One}
use Rattle.asa_objects_lines.specs.declared.service_value.ServiceValue.{ServiceValue}
use Rattle.asa_objects_lines.specs.declared.kinds.BlockKind.{BlockKind}
use Rattle.asa_objects_lines.specs.declared.kinds.BlockKind.TheVariants as block
use Rattle.asa_objects_lines.specs.declared.kinds.GroupKind.{GroupKind}
use Rattle.asa_objects_lines.specs.declared.kinds.GroupKind.TheVariants as group
use Rattle.asa_objects_lines.specs.declared.statement.Item.{Item}
use Rattle.asa_objects_lines.specs.declared.statement.Item.TheVariants as item
use Rattle.asa_objects_lines.specs.declared.statement.ObjectValue.TheVariants as value
use Rattle.asa_objects_lines.specs.declared.statement.Statement.{Statement}
use Rattle.asa_objects_lines.specs.declared.statement.Statement.TheVariants as says
use Rattle.asa_objects_lines.specs.Services.{has_ports, every_port}

-- ICMP
abbrev pub is_icmp : ServiceProtocol → Bool
is_icmp Every = false
is_icmp TcpUdp = false
is_icmp (One proto) = proto == 1

-- ports are stated of tcp and udp alone, a type of ICMP alone, and a code beside a type alone
abbrev pub IsServiceForm : ServiceValue → Type 0
IsServiceForm v = (has_ports v.protocol ≡ false → (v.source ≡ every_port) × (v.dest ≡ every_port))
    × (is_icmp v.protocol ≡ false → v.itype ≡ None)
    × (v.itype ≡ None → v.icode ≡ None)

-- tcp and udp in one value
abbrev pub is_tcp_udp : ServiceProtocol → Bool
is_tcp_udp Every = false
is_tcp_udp TcpUdp = true
is_tcp_udp (One _) = false

-- a network of one address
abbrev pub is_one_address : Member → Bool
is_one_address (network.Host _) = false
is_one_address (network.Span _) = false
is_one_address (network.Subnet prefix) = prefix.len == 32

-- a range of addresses that isn't a network
abbrev pub is_span : Member → Bool
is_span (network.Host _) = false
is_span (network.Span _) = true
is_span (network.Subnet _) = false

-- a kind of group that may have objects as members
abbrev pub takes_objects : GroupKind → Bool
takes_objects group.Network = true
takes_objects group.Service = true
takes_objects (group.Port _) = false
takes_objects group.Protocol = false
takes_objects group.IcmpType = false

-- no member has this form
abbrev pub Never : Type 0
Never = true ≡ false

-- addresses of a group: a host or a network of several addresses
abbrev pub FitsAsAddress : GroupKind → Member → Type 0
FitsAsAddress group.Network m = (is_one_address m ≡ false) × (is_span m ≡ false)
FitsAsAddress _ m = Never

-- services of a group
abbrev pub FitsAsService : GroupKind → ServiceValue → Type 0
FitsAsService group.Service v = IsServiceForm v
FitsAsService _ v = Never

-- ports of a group
abbrev pub FitsAsPort : GroupKind → Type 0
FitsAsPort (group.Port _) = Unit {0}
FitsAsPort _ = Never

-- a member that a group of this kind may have, as far as its form goes
abbrev pub FitsGroup : GroupKind → Item → Type 0
FitsGroup g (item.Network m) = FitsAsAddress g m
FitsGroup g (item.Service v) = FitsAsService g v
FitsGroup g (item.Port _) = FitsAsPort g
FitsGroup g (item.Protocol _) = g ≡ group.Protocol
FitsGroup g (item.IcmpType _) = g ≡ group.IcmpType
FitsGroup g (item.Object _) = IsTrue (takes_objects g)
FitsGroup g (item.Group _) = Unit {0}

-- a member stands in a group's block alone
abbrev pub FitsBlockAsItem : BlockKind → Item → Type 0
FitsBlockAsItem block.NetObject i = Never
FitsBlockAsItem block.ServiceObject i = Never
FitsBlockAsItem (block.Group g) i = FitsGroup g i

-- what a line may say in a block of this kind: a value of its own sort in an object, a member of its own sort in a group
abbrev pub FitsBlock : BlockKind → Statement → Type 0
FitsBlock b (says.Value (value.Network _)) = b ≡ block.NetObject
FitsBlock b (says.Value (value.Service v)) = (b ≡ block.ServiceObject) × IsServiceForm v × (is_tcp_udp v.protocol ≡ false)
FitsBlock b (says.Member i) = FitsBlockAsItem b i
FitsBlock b (says.Removed i) = FitsBlockAsItem b i
FitsBlock b says.Nothing = Unit {0}
FitsBlock b says.Nat = b ≡ block.NetObject
FitsBlock b says.NoNat = b ≡ block.NetObject
