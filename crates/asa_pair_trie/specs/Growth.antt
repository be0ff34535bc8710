-- How nodes and slots grow while entries are compiled.
use Rattle.std.specs.Prelude.{◌≡◌, ℕ, ◌+◌, ◌*◌, ◌≤◌, ◌++◌, List, length, if◌then◌else◌}
use Rattle.std.specs.List.Sorted.{IsPermutation}
use Rattle.asa_base.specs.Networks.{Network}
use Rattle.asa_base.specs.declared.flow.Packet.{Packet}
use Rattle.asa_trie.specs.Bits.{home_of, covers_number}
use Rattle.asa_trie.specs.Tries.{Later, IsNested, Grown, sum_over}
use Rattle.asa_pair_trie.specs.declared.entries.Entry.{Entry}
use Rattle.asa_pair_trie.specs.declared.entries.Side.{Side}
use Rattle.asa_pair_trie.specs.declared.entries.Side.TheVariants.{Source, Dest}
use Rattle.asa_pair_trie.specs.declared.arenas.OuterNode.{OuterNode}
use Rattle.asa_pair_trie.specs.declared.arenas.InnerNode.{InnerNode}
use Rattle.asa_pair_trie.specs.declared.arenas.Slot.{Slot}
use Rattle.asa_pair_trie.specs.Lookup.{Seen, seeing, seen, entries_in, chain, inner_links, inner_value, outer_links, outer_value}

-- one of an entry's two prefixes
abbrev pub prefix_by : Side → Entry → Network
prefix_by Source e = e.source
prefix_by Dest e = e.dest

-- what an entry is worth to a packet whose source it covers
abbrev pub worth : Packet → Entry → Seen
worth p e = if covers_number e.dest p.dst.0 then seen p e else seeing.unit

-- in this list and in every later one the chain from this link on holds just these entries
pub record Chained (slots : List Slot) (at : ℕ) (entries : List Entry) : Type 0 where
  pub sum : (later : List Slot) → Later slots later → (p : Packet) (fuel : ℕ) → at ≤ fuel → chain later p fuel at ≡ sum_over seeing (seen p) entries
  pub known : at ≤ length slots

-- the new slots hold what the old ones held and these entries, in some order
abbrev pub Added : List Slot → List Slot → List Entry → Type 0
Added old new entries = IsPermutation (entries_in old ++ entries) (entries_in new)

-- a chain was added
pub record ChainGrown (old new : List Slot) (at : ℕ) (entries : List Entry) : Type 0 where
  pub later : Later old new
  pub chained : Chained new at entries
  pub added : Added old new entries

-- the inner nodes have grown by those of the entries of one block
pub record InnerGrown (old_slots new_slots : List Slot) (old new : List InnerNode) (at levels : ℕ) (entries : List Entry) : Type 0 where
  pub later : Later old_slots new_slots
  pub added : Added old_slots new_slots entries
  pub grown : (slots : List Slot) → Later new_slots slots → (p : Packet)
      → Grown seeing inner_links (inner_value slots p) (prefix_by Dest) (seen p) (home_of (prefix_by Dest) entries) old new at levels entries

-- the outer nodes have grown by those of the entries of one block
pub record OuterGrown (old_slots new_slots : List Slot) (old_inner new_inner : List InnerNode) (old new : List OuterNode) (at levels : ℕ) (entries : List Entry) : Type 0 where
  pub later_slots : Later old_slots new_slots
  pub added : Added old_slots new_slots entries
  pub later_inner : Later old_inner new_inner
  pub few_inner : length new_inner ≤ length old_inner + 2 * length entries
  pub nested_inner : IsNested inner_links old_inner → IsNested inner_links new_inner
  pub grown : (slots : List Slot) → Later new_slots slots → (inner : List InnerNode) → Later new_inner inner → (p : Packet)
      → Grown seeing outer_links (outer_value slots inner p) (prefix_by Source) (worth p) (home_of (prefix_by Source) entries) old new at levels entries
