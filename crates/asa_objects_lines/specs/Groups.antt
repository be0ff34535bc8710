-- The indented lines of a group: a member, a removed member, or a description. Names are asked of what is known.
use Rattle.std.specs.Prelude.{ℕ, Bool, true, ◌||◌, ◌==◌, nat_lt, List, [], ◌∷◌, codes, Option, Some, None, Ok, Err, if◌then◌else◌}
use Rattle.asa_text.specs.declared.readers.LineFault.TheVariants.{Bad}
use Rattle.asa_text.specs.Words.{Left}
use Rattle.asa_text.specs.Readers.{Read, ◌>>=◌, next_is, after_one, column_at, keyword_at, end_at, bad_next}
use Rattle.asa_base.specs.Networks.{Network, network_at}
use Rattle.asa_base.specs.Ranges.{PortSpan}
use Rattle.asa_base.specs.Readers.{port_word_at, protocol_at, icmp_type_at, named_at}
use Rattle.asa_base.specs.Kinds.{Known}
use Rattle.asa_base.specs.declared.range.Member.{Member}
use Rattle.asa_base.specs.declared.range.Member.TheVariants as network
use Rattle.asa_base.specs.declared.kinds.Kind.{Kind}
use Rattle.asa_base.specs.declared.kinds.Kind.TheVariants as kind
use Rattle.asa_base.specs.declared.kinds.PortProto.{PortProto}
use Rattle.asa_objects_lines.specs.declared.service_value.ServiceProtocol.TheVariants as proto
use Rattle.asa_objects_lines.specs.declared.service_value.ServiceValue.{ServiceValue}
use Rattle.asa_objects_lines.specs.declared.kinds.BlockKind.{BlockKind}
use Rattle.asa_objects_lines.specs.declared.kinds.BlockKind.TheVariants as block
use Rattle.asa_objects_lines.specs.declared.kinds.GroupKind.{GroupKind}
use Rattle.asa_objects_lines.specs.declared.kinds.GroupKind.TheVariants as group
use Rattle.asa_objects_lines.specs.declared.statement.Item.{Item}
use Rattle.asa_objects_lines.specs.declared.statement.Item.TheVariants as item
use Rattle.asa_objects_lines.specs.declared.statement.Statement.{Statement}
use Rattle.asa_objects_lines.specs.declared.statement.Statement.TheVariants as says
use Rattle.asa_objects_lines.specs.Blocks.{kind_of_group, same_port_proto}
use Rattle.asa_objects_lines.specs.Objects.{host_at, ported_value, service_value_at, network_object_line, service_object_line}

-- the name of an object of one kind
unfoldable pub object_item_at : Known → Kind → Left → Read Item
object_item_at known kind left = named_at known (kind ∷ []) left >>= λ ((name, _), rest). Ok (item.Object name, rest)

-- a network of a group; one address is a host
abbrev pub member_of_network : Network → Member
member_of_network prefix = if prefix.len == 32 then network.Host prefix.addr else network.Subnet prefix

-- `A M` of a group
unfoldable pub group_network_at : Left → Read Member
group_network_at left = network_at left >>= λ (prefix, rest). Ok (member_of_network prefix, rest)

-- `host A` or `A M` of a group
unfoldable pub group_address_at : Left → Read Member
group_address_at left = if next_is (codes "host") left then host_at (after_one left) else group_network_at left

-- what follows `network-object`
unfoldable pub network_item_at : Known → Left → Read Item
network_item_at known left =
    if next_is (codes "object") left then object_item_at known kind.NetObject (after_one left)
    else group_address_at left >>= λ (member, rest). Ok (item.Network member, rest)

-- a service of a group: that of a service object, or `tcp-udp` with ports
unfoldable pub group_service_at : Left → Read ServiceValue
group_service_at left =
    if next_is (codes "tcp-udp") left then ported_value proto.TcpUdp (after_one left) else service_value_at left

-- what follows `service-object`
unfoldable pub service_item_at : Known → Left → Read Item
service_item_at known left =
    if next_is (codes "object") left then object_item_at known kind.ServiceObject (after_one left)
    else group_service_at left >>= λ (v, rest). Ok (item.Service v, rest)

-- the ports from one to another, whose word stands at a column; a last port below the first is Bad there
abbrev pub port_span_or_bad : ℕ → ℕ → ℕ → Left → Read PortSpan
port_span_or_bad column first last rest = if nat_lt last first then Err (Bad column) else Ok (record { first = first; last = last }, rest)

-- `P P` of `range P P`
unfoldable pub port_range_at : Left → Read PortSpan
port_range_at left = port_word_at left >>= λ (first, l).
    port_word_at l >>= λ (last, rest). port_span_or_bad (column_at l) first last rest

-- `P` of `eq P`
unfoldable pub one_port_at : Left → Read PortSpan
one_port_at left = port_word_at left >>= λ (port, rest). Ok (record { first = port; last = port }, rest)

-- `eq P` or `range P P`
unfoldable pub member_ports_at : Left → Read PortSpan
member_ports_at left =
    if next_is (codes "eq") left then one_port_at (after_one left)
    else (if next_is (codes "range") left then port_range_at (after_one left)
    else Err (bad_next left))

-- what follows `port-object`
unfoldable pub port_item_at : Left → Read Item
port_item_at left = member_ports_at left >>= λ (span, rest). Ok (item.Port span, rest)

-- what follows `protocol-object`
unfoldable pub protocol_item_at : Left → Read Item
protocol_item_at left = protocol_at left >>= λ (p, rest). Ok (item.Protocol p, rest)

-- what follows `icmp-object`
unfoldable pub icmp_item_at : Left → Read Item
icmp_item_at left = icmp_type_at left >>= λ (itype, rest). Ok (item.IcmpType itype, rest)

-- what follows the word of a group's members
unfoldable pub item_at : Known → GroupKind → Left → Read Item
item_at known group.Network left = network_item_at known left
item_at known group.Service left = service_item_at known left
item_at known (group.Port _) left = port_item_at left
item_at known group.Protocol left = protocol_item_at left
item_at known group.IcmpType left = icmp_item_at left

-- the word that begins a member of a group of this kind
abbrev pub member_word : GroupKind → List ℕ
member_word group.Network = codes "network-object"
member_word group.Service = codes "service-object"
member_word (group.Port _) = codes "port-object"
member_word group.Protocol = codes "protocol-object"
member_word group.IcmpType = codes "icmp-object"

-- the word of ports of a name is this one
abbrev pub is_port_proto : PortProto → Option PortProto → Bool
is_port_proto proto None = Bool.false
is_port_proto proto (Some other) = same_port_proto proto other

-- a group of that name may stand in a group of this kind: one of ports has the same word of ports
abbrev pub fits_in : Known → GroupKind → List ℕ → Bool
fits_in known (group.Port proto) name = is_port_proto proto (known.port_proto name)
fits_in known _ name = true

-- a group's name as a member, whose word stands at a column; one that doesn't fit is Bad there
abbrev pub group_item_or_bad : Known → GroupKind → ℕ → List ℕ → Left → Read Item
group_item_or_bad known g column name rest = if fits_in known g name then Ok (item.Group name, rest) else Err (Bad column)

-- what follows `group-object`: the name of a group of the same kind
unfoldable pub group_item_at : Known → GroupKind → Left → Read Item
group_item_at known g left = named_at known (kind_of_group g ∷ []) left >>= λ ((name, _), rest).
    group_item_or_bad known g (column_at left) name rest

-- what begins with the word of the group's members; every other word is Bad
unfoldable pub own_item_at : Known → GroupKind → Left → Read Item
own_item_at known g left = keyword_at (member_word g) left >>= λ (_, rest). item_at known g rest

-- a member of a group, as far as it goes
unfoldable pub any_item_at : Known → GroupKind → Left → Read Item
any_item_at known g left = if next_is (codes "group-object") left then group_item_at known g (after_one left) else own_item_at known g left

-- a member of a group, to the line's end
unfoldable pub member_at : Known → GroupKind → Left → Read Item
member_at known g left = any_item_at known g left >>= λ (member, rest). end_at rest >>= λ (_, rest). Ok (member, rest)

-- a member begins here
abbrev pub begins_member : GroupKind → Left → Bool
begins_member g left = next_is (codes "group-object") left || next_is (member_word g) left

-- a member that the group gets
unfoldable pub added_at : Known → GroupKind → Left → Read Statement
added_at known g left = member_at known g left >>= λ (member, rest). Ok (says.Member member, rest)

-- a member that the group loses
unfoldable pub removed_at : Known → GroupKind → Left → Read Statement
removed_at known g left = member_at known g left >>= λ (member, rest). Ok (says.Removed member, rest)

-- what follows `no`, whose column is told: what is no member is Bad at `no`
unfoldable pub after_no : Known → GroupKind → ℕ → Left → Read Statement
after_no known g column left = if begins_member g left then removed_at known g left else Err (Bad column)

-- a line of a group
unfoldable pub group_line : Known → GroupKind → Left → Read Statement
group_line known g left =
    if next_is (codes "description") left then Ok (says.Nothing, after_one left)
    else (if next_is (codes "no") left then after_no known g (column_at left) (after_one left)
    else added_at known g left)

-- what an indented line says in a block of this kind
unfoldable pub statement_at : Known → BlockKind → Left → Read Statement
statement_at known block.NetObject left = network_object_line left
statement_at known block.ServiceObject left = service_object_line left
statement_at known (block.Group g) left = group_line known g left
