-- The first line of a block of an object or a group, and the line that removes one.
use Rattle.std.specs.Prelude.{List, [], ◌∷◌, codes, Ok, Err, if◌then◌else◌}
use Rattle.asa_text.specs.Words.{Left}
use Rattle.asa_text.specs.Readers.{Read, ◌>>=◌, next_is, after_one, column_at, keyword_at, end_at, bad_next, unsupported_next}
use Rattle.asa_base.specs.Names.{name_at}
use Rattle.asa_base.specs.Kinds.{Known}
use Rattle.asa_base.specs.Readers.{named_at}
use Rattle.asa_base.specs.declared.kinds.Kind.{Kind}
use Rattle.asa_base.specs.declared.kinds.Kind.TheVariants as kind
use Rattle.asa_base.specs.declared.kinds.PortProto.TheVariants as ports
use Rattle.asa_objects_lines.specs.declared.kinds.BlockKind.{BlockKind}
use Rattle.asa_objects_lines.specs.declared.kinds.BlockKind.TheVariants as block
use Rattle.asa_objects_lines.specs.declared.kinds.GroupKind.{GroupKind}
use Rattle.asa_objects_lines.specs.declared.kinds.GroupKind.TheVariants as group
use Rattle.asa_objects_lines.specs.declared.top.Top.{Top}
use Rattle.asa_objects_lines.specs.declared.top.Removal.{Removal}

-- `network` or `service`, after `object`
unfoldable pub object_word_at : Left → Read BlockKind
object_word_at left =
    if next_is (codes "network") left then Ok (block.NetObject, after_one left)
    else (if next_is (codes "service") left then Ok (block.ServiceObject, after_one left)
    else Err (bad_next left))

-- a word that the device takes after `object-group` and that is left out here is Unsupported, every other is Bad
unfoldable pub other_group_word : Left → Read GroupKind
other_group_word left =
    if next_is (codes "user") left then Err (unsupported_next left)
    else (if next_is (codes "security") left then Err (unsupported_next left)
    else Err (bad_next left))

-- the word after `object-group`, as the kind of a group without a word of ports
unfoldable pub group_word_at : Left → Read GroupKind
group_word_at left =
    if next_is (codes "network") left then Ok (group.Network, after_one left)
    else (if next_is (codes "service") left then Ok (group.Service, after_one left)
    else (if next_is (codes "protocol") left then Ok (group.Protocol, after_one left)
    else (if next_is (codes "icmp-type") left then Ok (group.IcmpType, after_one left)
    else other_group_word left)))

-- the word of ports after the name of a service group, where one stands there
unfoldable pub port_word_after : Left → Read GroupKind
port_word_after left =
    if next_is (codes "tcp") left then Ok (group.Port ports.Tcp, after_one left)
    else (if next_is (codes "udp") left then Ok (group.Port ports.Udp, after_one left)
    else (if next_is (codes "tcp-udp") left then Ok (group.Port ports.TcpUdp, after_one left)
    else Ok (group.Service, left)))

-- what follows the name of a group; `object-group service N` alone may have a word of ports
unfoldable pub kind_after_name : GroupKind → Left → Read GroupKind
kind_after_name group.Service left = port_word_after left
kind_after_name group.Network left = Ok (group.Network, left)
kind_after_name (group.Port proto) left = Ok (group.Port proto, left)
kind_after_name group.Protocol left = Ok (group.Protocol, left)
kind_after_name group.IcmpType left = Ok (group.IcmpType, left)

-- `object network|service N`, after its first word
unfoldable pub object_top_at : Left → Read Top
object_top_at left = object_word_at left >>= λ (kind, l).
    name_at l >>= λ (name, rest).
    end_at rest >>= λ (_, rest). Ok (record { block = kind; name = name; column = column_at l }, rest)

-- `object-group KIND N [tcp|udp|tcp-udp]`, after its first word
unfoldable pub group_top_at : Left → Read Top
group_top_at left = group_word_at left >>= λ (word, l).
    name_at l >>= λ (name, rest).
    kind_after_name word rest >>= λ (kind, rest).
    end_at rest >>= λ (_, rest). Ok (record { block = block.Group kind; name = name; column = column_at l }, rest)

-- the first line of a block of an object or a group
unfoldable pub top_at : Left → Read Top
top_at left =
    if next_is (codes "object") left then object_top_at (after_one left)
    else (if next_is (codes "object-group") left then group_top_at (after_one left)
    else Err (bad_next left))

-- the kinds of names that `no object ..` and `no object-group ..` take; `service` takes a group of services and one of ports
abbrev pub kinds_removed : BlockKind → List Kind
kinds_removed block.NetObject = kind.NetObject ∷ []
kinds_removed block.ServiceObject = kind.ServiceObject ∷ []
kinds_removed (block.Group group.Network) = kind.NetGroup ∷ []
kinds_removed (block.Group group.Service) = kind.ServiceGroup ∷ kind.PortGroup ∷ []
kinds_removed (block.Group (group.Port _)) = kind.PortGroup ∷ []
kinds_removed (block.Group group.Protocol) = kind.ProtocolGroup ∷ []
kinds_removed (block.Group group.IcmpType) = kind.IcmpGroup ∷ []

-- the word after `no object-group`, as a kind of block
unfoldable pub group_removed_at : Left → Read BlockKind
group_removed_at left = group_word_at left >>= λ (kind, rest). Ok (block.Group kind, rest)

-- what is removed: `object ..` or `object-group ..`, up to the name
unfoldable pub removed_word_at : Left → Read BlockKind
removed_word_at left =
    if next_is (codes "object") left then object_word_at (after_one left)
    else (if next_is (codes "object-group") left then group_removed_at (after_one left)
    else Err (bad_next left))

-- the line that removes an object or a group: `no object network|service N` or `no object-group network|service|protocol|icmp-type N`
unfoldable pub removal_at : Known → Left → Read Removal
removal_at known left = keyword_at (codes "no") left >>= λ (_, left).
    removed_word_at left >>= λ (kind, l).
    named_at known (kinds_removed kind) l >>= λ ((name, found), rest).
    end_at rest >>= λ (_, rest). Ok (record { kind = found; name = name; column = column_at l }, rest)
