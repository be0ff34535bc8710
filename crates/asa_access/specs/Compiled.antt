-- Compiled lists, and what they say of a packet: by the first match of a list, which is the line at the least rank among its entries that hold the packet.
use Rattle.std.specs.Prelude.{◌≡◌, ℕ, ◌+◌, ◌<◌, Bool, List, length, filter, slice_get, Option, Some, option_and_then, unwrap_or}
use Rattle.std.specs.List.{position}
use Rattle.std.specs.Option.{option_map}
use Rattle.asa_base.specs.declared.flow.Packet.{Packet}
use Rattle.asa_pair_trie.specs.declared.entries.Entry.{Entry}
use Rattle.asa_pair_trie.specs.Pairs.{covers_both, first_of}
use Rattle.asa_access.specs.declared.list.AccessList.{AccessList}
use Rattle.asa_access.specs.declared.verdict.AccessVerdict.{AccessVerdict}
use Rattle.asa_access.specs.Rules.{Match, inbound_by, outbound_by}
use Rattle.asa_access.specs.Lists.{has_side, rises}

-- a compiled list: its name, its entries in an order of no meaning, and for each rank the line of the list and whether that permits
pub record CompiledList : Type 0 where
  pub name : List ℕ
  pub entries : List Entry
  pub lines : List (ℕ × Bool)

-- compiled lists, the place of the list at each interface's two sides, the place of the global list, and the levels
pub record CompiledLists : Type 0 where
  pub lists : List CompiledList
  pub inputs : List (Option ℕ)
  pub egresses : List (Option ℕ)
  pub global : Option ℕ
  pub levels : List ℕ

-- the table has the place of the list at one side of each interface, by the interface's number
abbrev pub IsTable : List AccessList → Bool → List (Option ℕ) → Type 0
IsTable lists way places = (ifc : ℕ) → ifc < 256 → slice_get places ifc ≡ Some (position (has_side (ifc, way)) lists)

-- the line of a compiled list that decides a packet: that of the least rank among the entries that hold it
abbrev pub match_in : Packet → CompiledList → Match
match_in p l = record { name = l.name; first = option_and_then (slice_get l.lines) (first_of l.entries p) }

-- how many entries of a compiled list have prefixes that cover the packet's addresses
abbrev pub covering_among : Packet → CompiledList → ℕ
covering_among p l = length (filter (covers_both p) l.entries)

-- the place that a table has for an interface, where it has one
abbrev pub place_in : List (Option ℕ) → ℕ → Option ℕ
place_in places ifc = option_and_then (λ place. place) (slice_get places ifc)

-- the compiled list at a place, where there is one
abbrev pub list_in : CompiledLists → Option ℕ → Option CompiledList
list_in c place = option_and_then (slice_get c.lists) place

-- the compiled list at an interface's input, and at its egress
abbrev pub input_list : CompiledLists → ℕ → Option CompiledList
input_list c ifc = list_in c (place_in c.inputs ifc)

abbrev pub egress_list : CompiledLists → ℕ → Option CompiledList
egress_list c ifc = list_in c (place_in c.egresses ifc)

-- the compiled global list
abbrev pub global_list : CompiledLists → Option CompiledList
global_list c = list_in c c.global

-- the verdict at the input, by the first matches of its own list and of the global list
unfoldable pub inbound_in : CompiledLists → Packet → ℕ → AccessVerdict
inbound_in c p egress =
    inbound_by (option_map (match_in p) (input_list c p.ifc)) (option_map (match_in p) (global_list c)) (rises c.levels p.ifc egress)

-- the verdict at the egress, by the first match of its list
unfoldable pub outbound_in : CompiledLists → Packet → ℕ → AccessVerdict
outbound_in c p egress = outbound_by (option_map (match_in p) (egress_list c egress))

-- how many entries of a compiled list cover the packet, where there is a list
abbrev pub covering_if : Packet → Option CompiledList → ℕ
covering_if p list = unwrap_or (option_map (covering_among p) list) 0

-- how many entries of the lists at the input cover the packet
unfoldable pub covering_inbound : CompiledLists → Packet → ℕ
covering_inbound c p = covering_if p (input_list c p.ifc) + covering_if p (global_list c)

-- how many entries of the list at the egress cover the packet
unfoldable pub covering_outbound : CompiledLists → Packet → ℕ → ℕ
covering_outbound c p egress = covering_if p (egress_list c egress)
