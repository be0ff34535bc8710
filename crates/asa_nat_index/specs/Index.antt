-- What is found in the index: entries by the interfaces of their cases.
use Rattle.std.specs.Prelude.{ℕ, ◌+◌, ◌*◌, List, [], length, filter, slice_get, Option, Some, None, unwrap_or}
use Rattle.asa_base.specs.declared.flow.Packet.{Packet}
use Rattle.asa_pair_trie.specs.declared.entries.Entry.{Entry}
use Rattle.asa_pair_trie.specs.Pairs.{covers_both, first_of, lesser}

-- the entries of destination cases by their input, and of source cases by their input and egress
pub record Index : Type 0 where
  pub dests : List (List Entry)
  pub sources : List (List Entry)

-- the number of an interface, 0 for `any`
abbrev pub side : Option ℕ → ℕ
side None = 0
side (Some ifc) = ifc + 1

-- the place of the entries of an input and an egress
abbrev pub pair_key : Option ℕ → Option ℕ → ℕ
pair_key from to = side from * 65 + side to

-- the entries at a place
abbrev pub shelf : List (List Entry) → ℕ → List Entry
shelf lists key = unwrap_or (slice_get lists key) []

-- the least rank of entries that hold the packet, and how many cover its addresses
abbrev pub first_in : Packet → List Entry → Option ℕ
first_in p es = first_of es p

abbrev pub covering_in : Packet → List Entry → ℕ
covering_in p es = length (filter (covers_both p) es)

-- the least rank of those at a place
abbrev pub first_on : List (List Entry) → ℕ → Packet → Option ℕ
first_on lists key p = first_of (shelf lists key) p

-- how many of those at a place cover the packet's addresses
abbrev pub covering_on : List (List Entry) → ℕ → Packet → ℕ
covering_on lists key p = length (filter (covers_both p) (shelf lists key))

-- the lesser of the ranks for `any` and for the input
unfoldable pub dest_in : List (List Entry) → Packet → Option ℕ
dest_in lists p = lesser (first_on lists (side None) p) (first_on lists (side (Some p.ifc)) p)

unfoldable pub dest_read : List (List Entry) → Packet → ℕ
dest_read lists p = covering_on lists (side None) p + covering_on lists (side (Some p.ifc)) p

-- the lesser of the ranks from one interface to `any` and to the egress
abbrev pub source_from : List (List Entry) → Option ℕ → Packet → ℕ → Option ℕ
source_from lists from p egress = lesser (first_on lists (pair_key from None) p) (first_on lists (pair_key from (Some egress)) p)

abbrev pub source_read_from : List (List Entry) → Option ℕ → Packet → ℕ → ℕ
source_read_from lists from p egress = covering_on lists (pair_key from None) p + covering_on lists (pair_key from (Some egress)) p

-- the lesser of those from `any` and from the input
unfoldable pub source_in : List (List Entry) → Packet → ℕ → Option ℕ
source_in lists p egress = lesser (source_from lists None p egress) (source_from lists (Some p.ifc) p egress)

unfoldable pub source_read : List (List Entry) → Packet → ℕ → ℕ
source_read lists p egress = source_read_from lists None p egress + source_read_from lists (Some p.ifc) p egress
