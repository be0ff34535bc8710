-- What the lists of a configuration and its levels say of a packet: by the first box of a list that holds it.
use Rattle.std.specs.Prelude.{ℕ, ◌+◌, Bool, nat_lt, List, map, Option, Some, None, slice_get, unwrap_or}
use Rattle.std.specs.Option.{option_map}
use Rattle.asa_base.specs.declared.flow.Packet.{Packet}
use Rattle.asa_access_entries.specs.Matches.{boxes_covering, first_box}
use Rattle.asa_ifaces.specs.declared.iface.Iface.{Iface}
use Rattle.asa_acl.specs.Acls.{AccessLines}
use Rattle.asa_config.specs.Settings.{Settings, list_on, global_list}
use Rattle.asa_config.specs.Names.{boxes_under}
use Rattle.asa_access.specs.declared.verdict.AccessVerdict.{AccessVerdict}
use Rattle.asa_access.specs.Rules.{Match, inbound_by, outbound_by}

-- the level of an interface, where there is one; the configuration keeps that of one without a name as 0
abbrev pub level_among : Option Iface → ℕ
level_among None = 0
level_among (Some i) = i.level

-- the level of the interface with this number
unfoldable pub level_at : Settings → ℕ → ℕ
level_at c ifc = level_among (slice_get c.net.ifaces ifc)

-- the levels of these interfaces, in order
abbrev pub levels_of : List Iface → List ℕ
levels_of ifaces = map (λ i. i.level) ifaces

-- a list of the configuration, and the line of it that decides the packet
abbrev pub match_in : Settings → Packet → AccessLines → Match
match_in c p l = record { name = l.name; first = first_box (boxes_under c l) p }

-- the inbound side: the interface's own list, then the global list, then the levels
unfoldable pub inbound : Settings → Packet → ℕ → AccessVerdict
inbound c p egress = inbound_by (option_map (match_in c p) (list_on c p.ifc Bool.true)) (option_map (match_in c p) (global_list c))
    (nat_lt (level_at c p.ifc) (level_at c egress))

-- the outbound side: the list of the egress
unfoldable pub outbound : Settings → Packet → ℕ → AccessVerdict
outbound c p egress = outbound_by (option_map (match_in c p) (list_on c egress Bool.false))

-- how many prefix pairs of a list's boxes cover the packet's addresses
abbrev pub covering_under : Settings → Packet → AccessLines → ℕ
covering_under c p l = boxes_covering p (boxes_under c l)

-- the same where there is a list
abbrev pub covering_if : Settings → Packet → Option AccessLines → ℕ
covering_if c p list = unwrap_or (option_map (covering_under c p) list) 0

-- how many do of the lists that are asked at the input
unfoldable pub inbound_covering : Settings → Packet → ℕ
inbound_covering c p = covering_if c p (list_on c p.ifc Bool.true) + covering_if c p (global_list c)

-- how many do of the list that is asked at the egress
unfoldable pub outbound_covering : Settings → Packet → ℕ → ℕ
outbound_covering c p egress = covering_if c p (list_on c egress Bool.false)
