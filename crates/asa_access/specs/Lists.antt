-- Lists that are bound to interfaces, and what they say of a packet: by the first entry of a list that holds it.
use Rattle.std.specs.Prelude.{ℕ, ◌+◌, Bool, true, false, not, ◌&&◌, ◌==◌, nat_lt, List, slice_get, slice_index, Option, option_and_then, unwrap_or}
use Rattle.std.specs.List.{list_any, position}
use Rattle.std.specs.Option.{option_map}
use Rattle.asa_base.specs.declared.flow.Packet.{Packet}
use Rattle.asa_access_entries.specs.Matches.{entries_covering, first_match}
use Rattle.asa_access.specs.declared.list.AccessList.{AccessList}
use Rattle.asa_access.specs.declared.verdict.AccessVerdict.{AccessVerdict}
use Rattle.asa_access.specs.Rules.{Match, inbound_by, outbound_by}

-- both are inbound sides, or both outbound ones
abbrev pub same_direction : Bool → Bool → Bool
same_direction true b = b
same_direction false b = not b

-- the two sides are the same: the number of an interface, and whether its inbound side
abbrev pub same_side : ℕ × Bool → ℕ × Bool → Bool
same_side a b = (a.0 == b.0) && same_direction a.1 b.1

-- the list is bound to that side
abbrev pub has_side : ℕ × Bool → AccessList → Bool
has_side side l = list_any (same_side side) l.bound

-- the list that is bound to that side
abbrev pub list_at : List AccessList → ℕ × Bool → Option AccessList
list_at lists side = option_and_then (slice_get lists) (position (has_side side) lists)

-- the global list, by its place
abbrev pub global_of : List AccessList → Option ℕ → Option AccessList
global_of lists global = option_and_then (slice_get lists) global

-- the line of a list that decides a packet
abbrev pub match_of : Packet → AccessList → Match
match_of p l = record { name = l.name; first = first_match l.entries p }

-- what the interfaces' levels say: the packet goes to a higher one
abbrev pub rises : List ℕ → ℕ → ℕ → Bool
rises levels ifc egress = nat_lt (slice_index levels ifc) (slice_index levels egress)

-- the verdict at the input
unfoldable pub inbound : List AccessList → Option ℕ → List ℕ → Packet → ℕ → AccessVerdict
inbound lists global levels p egress =
    inbound_by (option_map (match_of p) (list_at lists (p.ifc, true))) (option_map (match_of p) (global_of lists global)) (rises levels p.ifc egress)

-- the verdict at the egress
unfoldable pub outbound : List AccessList → Packet → ℕ → AccessVerdict
outbound lists p egress = outbound_by (option_map (match_of p) (list_at lists (egress, false)))

-- how many entries of a list have prefixes that cover the packet's addresses
abbrev pub covering_in : Packet → AccessList → ℕ
covering_in p l = entries_covering p l.entries

-- the same where there is a list
abbrev pub covering : Packet → Option AccessList → ℕ
covering p list = unwrap_or (option_map (covering_in p) list) 0

-- how many entries of the lists at the input cover the packet
unfoldable pub inbound_covering : List AccessList → Option ℕ → Packet → ℕ
inbound_covering lists global p = covering p (list_at lists (p.ifc, true)) + covering p (global_of lists global)

-- how many entries of the list at the egress cover the packet
unfoldable pub outbound_covering : List AccessList → Packet → ℕ → ℕ
outbound_covering lists p egress = covering p (list_at lists (egress, false))
