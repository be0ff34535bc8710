-- The indented lines of an object: its value, what is ignored, and lines of NAT, which are told and read elsewhere.
use Rattle.std.specs.Prelude.{ℕ, ◌==◌, nat_lt, List, codes, Option, Some, None, is_none, Ok, Err, if◌then◌else◌}
use Rattle.asa_text.specs.declared.numbers.Addr.{Addr}
use Rattle.asa_text.specs.declared.readers.LineFault.TheVariants.{Bad}
use Rattle.asa_text.specs.Words.{Left}
use Rattle.asa_text.specs.Readers.{Read, ◌>>=◌, next_is, next_word, after_one, column_at, address_at, end_at, bad_next, unsupported_next}
use Rattle.asa_base.specs.Networks.{network_at}
use Rattle.asa_base.specs.Ranges.{PortSpan}
use Rattle.asa_base.specs.Readers.{ports_at, protocol_at, icmp_type_at, icmp_code_at}
use Rattle.asa_base.specs.declared.range.Member.{Member}
use Rattle.asa_base.specs.declared.range.Member.TheVariants as network
use Rattle.asa_objects_lines.specs.declared.service_value.ServiceProtocol.{ServiceProtocol}
use Rattle.asa_objects_lines.specs.declared.service_value.ServiceProtocol.TheVariants as proto
use Rattle.asa_objects_lines.specs.declared.service_value.ServiceValue.{ServiceValue}
use Rattle.asa_objects_lines.specs.Services.{every_port}
use Rattle.asa_objects_lines.specs.declared.statement.ObjectValue.TheVariants as value
use Rattle.asa_objects_lines.specs.declared.statement.Statement.{Statement}
use Rattle.asa_objects_lines.specs.declared.statement.Statement.TheVariants as says

-- the addresses from one to another, whose word stands at a column; a last address below the first is Bad there
abbrev pub span_or_bad : ℕ → Addr → Addr → Left → Read Member
span_or_bad column first last rest = if nat_lt last.0 first.0 then Err (Bad column) else Ok (network.Span (record { first = first; last = last }), rest)

-- `range A A`, after its first word
unfoldable pub range_at : Left → Read Member
range_at left = address_at left >>= λ (first, l).
    address_at l >>= λ (last, rest). span_or_bad (column_at l) first last rest

-- `host A`, after its first word
unfoldable pub host_at : Left → Read Member
host_at left = address_at left >>= λ (addr, rest). Ok (network.Host addr, rest)

-- `subnet A M`, after its first word; a mask of 32 ones stays a subnet
unfoldable pub subnet_at : Left → Read Member
subnet_at left = network_at left >>= λ (prefix, rest). Ok (network.Subnet prefix, rest)

-- a value line of a network object, to the line's end
abbrev pub value_line : Member → Left → Read Statement
value_line member left = end_at left >>= λ (_, rest). Ok (says.Value (value.Network member), rest)

-- a value line of a network object: the value, and nothing after it
abbrev pub network_value : Read Member → Read Statement
network_value read = read >>= λ (member, rest). value_line member rest

-- what may follow `no`, whose column is told, in a network object: `nat ..` and `description ..`
unfoldable pub network_object_no : ℕ → Left → Read Statement
network_object_no column left =
    if next_is (codes "nat") left then Ok (says.NoNat, after_one left)
    else (if next_is (codes "description") left then Ok (says.Nothing, after_one left)
    else Err (Bad column))

-- a line of a network object that states no value: of NAT, a description, `no ..`, or `fqdn`, which is left out
unfoldable pub other_network_line : Left → Read Statement
other_network_line left =
    if next_is (codes "nat") left then Ok (says.Nat, after_one left)
    else (if next_is (codes "no") left then network_object_no (column_at left) (after_one left)
    else (if next_is (codes "description") left then Ok (says.Nothing, after_one left)
    else (if next_is (codes "fqdn") left then Err (unsupported_next left)
    else Err (bad_next left))))

-- a line of a network object
unfoldable pub network_object_line : Left → Read Statement
network_object_line left =
    if next_is (codes "host") left then network_value (host_at (after_one left))
    else (if next_is (codes "subnet") left then network_value (subnet_at (after_one left))
    else (if next_is (codes "range") left then network_value (range_at (after_one left))
    else other_network_line left))

-- ports after this word, where it stands there; else every port
unfoldable pub ports_after : List ℕ → Left → Read (List PortSpan)
ports_after word left = if next_is word left then ports_at (after_one left) else Ok (every_port, left)

-- `[source PORTS] [destination PORTS]` of a protocol with ports
unfoldable pub ported_value : ServiceProtocol → Left → Read ServiceValue
ported_value protocol left = ports_after (codes "source") left >>= λ (source, left).
    ports_after (codes "destination") left >>= λ (dest, left).
    Ok (record { protocol = protocol; source = source; dest = dest; itype = None; icode = None }, left)

-- a value that states a protocol alone
abbrev pub plain_value : ServiceProtocol → ServiceValue
plain_value protocol = record { protocol = protocol; source = every_port; dest = every_port; itype = None; icode = None }

-- ICMP, with the type and the code that are stated
abbrev pub icmp_value : Option ℕ → Option ℕ → ServiceValue
icmp_value itype icode = record { protocol = proto.One 1; source = every_port; dest = every_port; itype = itype; icode = icode }

-- a code, where the line goes on
unfoldable pub optional_code : Left → Read (Option ℕ)
optional_code left = if is_none (next_word left) then Ok (None, left) else icmp_code_at left >>= λ (icode, rest). Ok (Some icode, rest)

-- `[TYPE [CODE]]` of ICMP
unfoldable pub typed_value : Left → Read ServiceValue
typed_value left = if is_none (next_word left) then Ok (icmp_value None None, left)
    else icmp_type_at left >>= λ (itype, l). optional_code l >>= λ (icode, rest). Ok (icmp_value (Some itype) icode, rest)

-- what may follow a protocol: ports after tcp and udp, a type and a code after ICMP
unfoldable pub value_after : Option ℕ → Left → Read ServiceValue
value_after None left = Ok (plain_value proto.Every, left)
value_after (Some p) left =
    if p == 6 then ported_value (proto.One p) left
    else (if p == 17 then ported_value (proto.One p) left
    else (if p == 1 then typed_value left
    else Ok (plain_value (proto.One p), left)))

-- the value of a service object, after its first word: a protocol by name or number and what may follow it
unfoldable pub service_value_at : Left → Read ServiceValue
service_value_at left = protocol_at left >>= λ (p, rest). value_after p rest

-- `service ..`, after its first word
unfoldable pub service_line : Left → Read Statement
service_line left = service_value_at left >>= λ (v, rest). end_at rest >>= λ (_, rest). Ok (says.Value (value.Service v), rest)

-- a line of a service object
unfoldable pub service_object_line : Left → Read Statement
service_object_line left =
    if next_is (codes "service") left then service_line (after_one left)
    else (if next_is (codes "description") left then Ok (says.Nothing, after_one left)
    else Err (bad_next left))
