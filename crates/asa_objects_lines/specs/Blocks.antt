-- Kinds of blocks, and what they define.
use Rattle.std.specs.Prelude.{Bool, true, false}
use Rattle.asa_base.specs.declared.kinds.Kind.{Kind}
use Rattle.asa_base.specs.declared.kinds.Kind.TheVariants as kind
use Rattle.asa_base.specs.declared.kinds.PortProto.{PortProto}
use Rattle.asa_base.specs.declared.kinds.PortProto.TheVariants as ports
use Rattle.asa_objects_lines.specs.declared.kinds.BlockKind.{BlockKind}
use Rattle.asa_objects_lines.specs.declared.kinds.BlockKind.TheVariants as block
use Rattle.asa_objects_lines.specs.declared.kinds.GroupKind.{GroupKind}
use Rattle.asa_objects_lines.specs.declared.kinds.GroupKind.TheVariants as group

-- the kind of name that a group's block defines
abbrev pub kind_of_group : GroupKind → Kind
kind_of_group group.Network = kind.NetGroup
kind_of_group group.Service = kind.ServiceGroup
kind_of_group (group.Port _) = kind.PortGroup
kind_of_group group.Protocol = kind.ProtocolGroup
kind_of_group group.IcmpType = kind.IcmpGroup

-- the kind of name that a block defines
abbrev pub kind_of_block : BlockKind → Kind
kind_of_block block.NetObject = kind.NetObject
kind_of_block block.ServiceObject = kind.ServiceObject
kind_of_block (block.Group g) = kind_of_group g

-- the two words of ports are the same
abbrev pub same_port_proto : PortProto → PortProto → Bool
same_port_proto ports.Tcp ports.Tcp = true
same_port_proto ports.Udp ports.Udp = true
same_port_proto ports.TcpUdp ports.TcpUdp = true
same_port_proto _ _ = false
