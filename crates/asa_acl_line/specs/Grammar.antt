-- Reading a line of an access list: `[extended] permit|deny PROTOCOL SOURCE [PORTS] DEST [PORTS or ICMP] [log ..] [inactive]`
-- or `remark TEXT`.
use Rattle.std.specs.Prelude.{ℕ, ◌-◌, Bool, true, false, ◌&&◌, ◌||◌, ◌==◌, nat_lt, List, [], ◌∷◌, drop, codes, Option, Some, None, is_none, is_some, not, Result, Ok, Err, if◌then◌else◌}
use Rattle.std.specs.List.{list_any}
use Rattle.std.specs.Str.{bytes_eq}
use Rattle.asa_text.specs.declared.readers.LineFault.{LineFault}
use Rattle.asa_text.specs.declared.readers.LineFault.TheVariants.{Bad}
use Rattle.asa_text.specs.Lines.{trimmed}
use Rattle.asa_text.specs.Words.{Spelled, Left, line_left}
use Rattle.asa_text.specs.Readers.{Read, ◌>>=◌, next_word, after_one, next_is, column_at, bad_next, unsupported_next, keyword_at, address_at, end_at}
use Rattle.asa_base.specs.Boxes.{any_service}
use Rattle.asa_base.specs.Kinds.{Known}
use Rattle.asa_base.specs.Names.{is_name}
use Rattle.asa_base.specs.Networks.{Network, network_at}
use Rattle.asa_base.specs.Readers.{states_ports, ports_at, protocol_at, icmp_type_at, icmp_code_at, interface_at, named_at}
use Rattle.asa_base.specs.declared.boxes.Service.{Service}
use Rattle.asa_base.specs.declared.kinds.Kind.{Kind}
use Rattle.asa_base.specs.declared.kinds.Kind.TheVariants as kind
use Rattle.asa_base.specs.declared.kinds.PortProto.{PortProto}
use Rattle.asa_base.specs.declared.kinds.PortProto.TheVariants as port_proto
use Rattle.asa_acl_line.specs.declared.ace.AddrRef.{AddrRef}
use Rattle.asa_acl_line.specs.declared.ace.AddrRef.TheVariants as address
use Rattle.asa_acl_line.specs.declared.ace.PortRef.{PortRef}
use Rattle.asa_acl_line.specs.declared.ace.PortRef.TheVariants as port
use Rattle.asa_acl_line.specs.declared.ace.ServiceRef.{ServiceRef}
use Rattle.asa_acl_line.specs.declared.ace.ServiceRef.TheVariants as service
use Rattle.asa_acl_line.specs.declared.ace.Ace.{Ace}
use Rattle.asa_acl_line.specs.declared.ace.AclLine.{AclLine}
use Rattle.asa_acl_line.specs.declared.ace.AclLine.TheVariants as line

-- the next word begins a part that the device has and that is left out here: times, users and security groups
abbrev pub next_left_out : Left → Bool
next_left_out left = next_is (codes "time-range") left || next_is (codes "user") left || next_is (codes "user-group") left
    || next_is (codes "security-group") left || next_is (codes "object-group-user") left || next_is (codes "object-group-security") left

-- sources and destinations ---------------------------------------------------------------------------------------------

-- the name of an object or a group of one kind
unfoldable pub name_of_kind_at : Known → Kind → Left → Read (List ℕ)
name_of_kind_at known wanted left = named_at known (wanted ∷ []) left >>= λ (named, rest). Ok (named.0, rest)

-- `host A`, after the word `host`
unfoldable pub host_at : Left → Read AddrRef
host_at left = address_at left >>= λ (a, rest). Ok (address.Host a, rest)

-- a network of one address is a host
abbrev pub host_or_network : Network → AddrRef
host_or_network n = if n.len == 32 then address.Host n.addr else address.Net n

-- `A M`
unfoldable pub address_mask_at : Left → Read AddrRef
address_mask_at left = network_at left >>= λ (n, rest). Ok (host_or_network n, rest)

-- `object N` and `object-group N`, after the first word
unfoldable pub address_name_at : Known → Kind → Left → Read AddrRef
address_name_at known wanted left = name_of_kind_at known wanted left >>= λ (name, rest). Ok (address.Named name, rest)

-- `interface I`, after the first word
unfoldable pub own_address_at : Known → Left → Read AddrRef
own_address_at known left = interface_at known.interface_of left >>= λ (ifc, rest). Ok (address.Interface ifc, rest)

-- an address and a mask, where no other form begins
unfoldable pub stated_address_at : Left → Read AddrRef
stated_address_at left = if next_left_out left then Err (unsupported_next left) else address_mask_at left

-- a form with a name, or an address and a mask
unfoldable pub named_address_at : Known → Left → Read AddrRef
named_address_at known left =
    if next_is (codes "object") left then address_name_at known kind.NetObject (after_one left)
    else (if next_is (codes "object-group") left then address_name_at known kind.NetGroup (after_one left)
    else (if next_is (codes "interface") left then own_address_at known (after_one left)
    else stated_address_at left))

-- a source or a destination
unfoldable pub address_ref_at : Known → Left → Read AddrRef
address_ref_at known left =
    if next_is (codes "any") left || next_is (codes "any4") left then Ok (address.Any, after_one left)
    else (if next_is (codes "any6") left then Ok (address.Nothing, after_one left)
    else (if next_is (codes "host") left then host_at (after_one left)
    else named_address_at known left))

-- protocols ------------------------------------------------------------------------------------------------------------

-- ports may stand after tcp and udp
abbrev pub takes_ports : Option ℕ → Bool
takes_ports None = false
takes_ports (Some p) = (p == 6) || (p == 17)

-- a protocol of which nothing more is stated
abbrev pub protocol_ref : Option ℕ → ServiceRef
protocol_ref proto = if takes_ports proto then service.Ported None proto port.All port.All else service.Plain (record any_service { proto = proto })

-- `ip`, a protocol's number or its name
unfoldable pub protocol_word_at : Left → Read ServiceRef
protocol_word_at left = protocol_at left >>= λ (proto, rest). Ok (protocol_ref proto, rest)

-- a group of protocols takes ports, and one of services doesn't
abbrev pub group_ref : Kind → List ℕ → ServiceRef
group_ref kind.ProtocolGroup name = service.Ported (Some name) None port.All port.All
group_ref _ name = service.Named name

-- `object-group N`, after the first word
unfoldable pub service_group_at : Known → Left → Read ServiceRef
service_group_at known left = named_at known (kind.ProtocolGroup ∷ kind.ServiceGroup ∷ []) left >>= λ (named, rest). Ok (group_ref named.1 named.0, rest)

-- `object N`, after the first word
unfoldable pub service_object_at : Known → Left → Read ServiceRef
service_object_at known left = name_of_kind_at known kind.ServiceObject left >>= λ (name, rest). Ok (service.Named name, rest)

-- a protocol, an object or a group of services, or a group of protocols
unfoldable pub protocol_ref_at : Known → Left → Read ServiceRef
protocol_ref_at known left =
    if next_is (codes "object") left then service_object_at known (after_one left)
    else (if next_is (codes "object-group") left then service_group_at known (after_one left)
    else protocol_word_at left)

-- ports ----------------------------------------------------------------------------------------------------------------

-- the group of ports has the protocol of the line; with a group of protocols every group of ports fits
abbrev pub fits : Option ℕ → Option PortProto → Bool
fits None _ = true
fits (Some p) None = false
fits (Some p) (Some port_proto.Tcp) = p == 6
fits (Some p) (Some port_proto.Udp) = p == 17
fits (Some p) (Some port_proto.TcpUdp) = true

-- a group of ports that fits, or Bad at its column
abbrev pub fitting_or_bad : Bool → ℕ → List ℕ → Left → Read PortRef
fitting_or_bad true column name left = Ok (port.Named name, left)
fitting_or_bad false column name left = Err (Bad column)

-- `object-group N` of ports, after the first word; one of another protocol is Bad at its name
unfoldable pub port_group_at : Known → Option ℕ → Left → Read PortRef
port_group_at known proto left = name_of_kind_at known kind.PortGroup left
    >>= λ (name, rest). fitting_or_bad (fits proto (known.port_proto name)) (column_at left) name rest

-- `eq P`, `lt P`, `gt P`, `neq P` or `range P P`
unfoldable pub port_ranges_at : Left → Read PortRef
port_ranges_at left = ports_at left >>= λ (spans, rest). Ok (port.Ranges spans, rest)

-- a group of ports
abbrev pub is_ports : Option Kind → Bool
is_ports (Some kind.PortGroup) = true
is_ports _ = false

-- the word is the name of a group of ports
abbrev pub names_ports : Known → Option Spelled → Bool
names_ports known None = false
names_ports known (Some w) = is_name w.word && is_ports (known.kind_of w.word)

-- `object-group N` with N a group of ports comes next
abbrev pub next_port_group : Known → Left → Bool
next_port_group known left = next_is (codes "object-group") left && names_ports known (next_word (after_one left))

-- the ports after SOURCE: an `object-group N` is of ports where N is a group of ports, and DEST otherwise
unfoldable pub source_ports_at : Known → Option ℕ → Left → Read PortRef
source_ports_at known proto left =
    if states_ports left then port_ranges_at left
    else (if next_port_group known left then port_group_at known proto (after_one left)
    else Ok (port.All, left))

-- the ports after DEST
unfoldable pub dest_ports_at : Known → Option ℕ → Left → Read PortRef
dest_ports_at known proto left =
    if states_ports left then port_ranges_at left
    else (if next_is (codes "object-group") left then port_group_at known proto (after_one left)
    else Ok (port.All, left))

-- what may follow SOURCE: ports, after a protocol that takes them
unfoldable pub source_part_at : Known → ServiceRef → Left → Read ServiceRef
source_part_at known (service.Ported group proto _ dest) left =
    source_ports_at known proto left >>= λ (source, rest). Ok (service.Ported group proto source dest, rest)
source_part_at known (service.Plain s) left = Ok (service.Plain s, left)
source_part_at known (service.Named name) left = Ok (service.Named name, left)
source_part_at known (service.Icmp name) left = Ok (service.Icmp name, left)

-- ICMP -----------------------------------------------------------------------------------------------------------------

-- the protocol is ICMP
abbrev pub is_icmp : Option ℕ → Bool
is_icmp None = false
is_icmp (Some p) = p == 1

-- no word comes next, or one that begins the line's last part
abbrev pub at_last_part : Left → Bool
at_last_part left = is_none (next_word left) || next_is (codes "log") left || next_is (codes "inactive") left || next_left_out left

-- `[CODE]`
unfoldable pub icmp_code_part_at : Service → Left → Read ServiceRef
icmp_code_part_at s left =
    if at_last_part left then Ok (service.Plain s, left)
    else icmp_code_at left >>= λ (code, rest). Ok (service.Plain (record s { icode = Some code }), rest)

-- `TYPE [CODE]`
unfoldable pub icmp_type_part_at : Service → Left → Read ServiceRef
icmp_type_part_at s left = icmp_type_at left >>= λ (itype, rest). icmp_code_part_at (record s { itype = Some itype }) rest

-- `object-group N` of ICMP types, after the first word
unfoldable pub icmp_group_at : Known → Left → Read ServiceRef
icmp_group_at known left = name_of_kind_at known kind.IcmpGroup left >>= λ (name, rest). Ok (service.Icmp name, rest)

-- what may follow DEST after ICMP
unfoldable pub icmp_part_at : Known → Service → Left → Read ServiceRef
icmp_part_at known s left =
    if next_is (codes "object-group") left then icmp_group_at known (after_one left)
    else (if at_last_part left then Ok (service.Plain s, left)
    else icmp_type_part_at s left)

-- what may follow DEST after a protocol without ports
unfoldable pub plain_part_at : Known → Service → Left → Read ServiceRef
plain_part_at known s left = if is_icmp s.proto then icmp_part_at known s left else Ok (service.Plain s, left)

-- what may follow DEST: ports after a protocol that takes them, a type and a code after ICMP
unfoldable pub dest_part_at : Known → ServiceRef → Left → Read ServiceRef
dest_part_at known (service.Ported group proto source _) left =
    dest_ports_at known proto left >>= λ (dest, rest). Ok (service.Ported group proto source dest, rest)
dest_part_at known (service.Plain s) left = plain_part_at known s left
dest_part_at known (service.Named name) left = Ok (service.Named name, left)
dest_part_at known (service.Icmp name) left = Ok (service.Icmp name, left)

-- the last part of an entry -----------------------------------------------------------------------------------------------

-- a word that ends what `log` is followed by
abbrev pub ends_log : Spelled → Bool
ends_log w = bytes_eq w.word (codes "inactive") || bytes_eq w.word (codes "time-range")

-- a word comes next that `log` is followed by
abbrev pub goes_on_with_log : Left → Bool
goes_on_with_log left = is_some (next_word left) && not (next_is (codes "inactive") left) && not (next_is (codes "time-range") left)

-- the words from the first that ends what `log` is followed by
abbrev pub from_end_of_log : List Spelled → List Spelled
from_end_of_log [] = []
from_end_of_log (w ∷ ws) = if ends_log w then w ∷ ws else from_end_of_log ws

abbrev pub past_log : Left → Left
past_log left = record { words = from_end_of_log left.words; end = left.end }

-- `[log ..]`: all words up to `inactive`, `time-range` or the line's end are ignored
abbrev pub after_log : Left → Left
after_log left = if next_is (codes "log") left then past_log (after_one left) else left

-- the end of an entry
unfoldable pub entry_end_at : Left → Read (Unit {0})
entry_end_at left = if next_left_out left then Err (unsupported_next left) else end_at left

-- `[inactive]` and the end; whether the entry is active
unfoldable pub activity_at : Left → Read Bool
activity_at left =
    if next_is (codes "inactive") left then (entry_end_at (after_one left) >>= λ (_, rest). Ok (false, rest))
    else (entry_end_at left >>= λ (_, rest). Ok (true, rest))

-- entries and remarks --------------------------------------------------------------------------------------------------

-- `PROTOCOL SOURCE [PORTS] DEST [PORTS or ICMP] [log ..] [inactive]`, to the line's end
unfoldable pub ace_at : Known → Bool → Left → Read Ace
ace_at known permit left = do
  (service, left) ← protocol_ref_at known left
  (source, left) ← address_ref_at known left
  (service, left) ← source_part_at known service left
  (dest, left) ← address_ref_at known left
  (service, left) ← dest_part_at known service left
  (active, left) ← activity_at (after_log left)
  Ok (record { permit = permit; active = active; service = service; source = source; dest = dest }, left)

-- `permit|deny ..`
unfoldable pub entry_at : Known → Left → Read Ace
entry_at known left =
    if next_is (codes "permit") left then ace_at known true (after_one left)
    else (keyword_at (codes "deny") left >>= λ (_, rest). ace_at known false rest)

-- `[extended] permit|deny ..`
unfoldable pub extended_at : Known → Left → Read Ace
extended_at known left = if next_is (codes "extended") left then entry_at known (after_one left) else entry_at known left

-- a byte of a word that doesn't print
abbrev pub has_control : Spelled → Bool
has_control w = list_any (λ b. nat_lt b 32) w.word

-- the end of a line without such a byte; the first word that has one is Bad
abbrev pub clean_end : ℕ → List Spelled → Read (Unit {0})
clean_end end [] = Ok (tt, record { words = []; end = end })
clean_end end (w ∷ ws) = if has_control w then Err (Bad w.column) else clean_end end ws

-- the text from a column to the end of the last word
abbrev pub text_from : ℕ → List ℕ → List ℕ
text_from column text = trimmed (drop (column - 1) text)

-- `TEXT` of a remark on this line; it has at least one word
unfoldable pub remark_at : List ℕ → Left → Read (List ℕ)
remark_at text left =
    if is_none (next_word left) then Err (bad_next left)
    else (clean_end left.end left.words >>= λ (_, rest). Ok (text_from (column_at left) text, rest))

-- a whole line of a list on a line with this text, from the word after the list's name and number on
unfoldable pub acl_line_at : Known → List ℕ → Left → Read AclLine
acl_line_at known text left =
    if next_is (codes "remark") left then (remark_at text (after_one left) >>= λ (remark, rest). Ok (line.Remark remark, rest))
    else (extended_at known left >>= λ (ace, rest). Ok (line.Ace ace, rest))

-- a word comes next that begins before the column
abbrev pub next_is_before : ℕ → Left → Bool
next_is_before column left = begins_before (next_word left)
  where
    begins_before : Option Spelled → Bool
    begins_before None = false
    begins_before (Some w) = nat_lt w.column column

-- the words from the first that begins at the column or after it
abbrev pub words_from : ℕ → List Spelled → List Spelled
words_from column [] = []
words_from column (w ∷ ws) = if nat_lt w.column column then words_from column ws else w ∷ ws

abbrev pub from_column : ℕ → Left → Left
from_column column left = record { words = words_from column left.words; end = left.end }

-- what was read, without what is left
abbrev pub read_value : {X : Type 0} → Read X → Result X LineFault
read_value (Ok read) = Ok read.0
read_value (Err fault) = Err fault

-- the line of a list that the words from a column on say
unfoldable pub acl_line_from : Known → List ℕ → ℕ → Result AclLine LineFault
acl_line_from known text column = read_value (acl_line_at known text (from_column column (line_left text)))
