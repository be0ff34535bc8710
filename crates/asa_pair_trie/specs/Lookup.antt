-- What a look-up finds in the nodes and slots of compiled entries, and that it is the definition's answer over these entries.
use Rattle.std.specs.Prelude.{◌≡◌, ℕ, zero, suc, ◌+◌, ◌^◌, ◌<◌, ◌≤◌, Bool, true, nat_lt, List, length, map, filter, Option, Some, None, if◌then◌else◌}
use Rattle.asa_base.specs.Networks.{Network}
use Rattle.asa_base.specs.Boxes.{service_holds}
use Rattle.asa_base.specs.declared.flow.Packet.{Packet}
use Rattle.asa_trie.specs.Bits.{height, bit_below}
use Rattle.asa_trie.specs.Tries.{Joining, Links, IsTrie, node_at, walk}
use Rattle.asa_pair_trie.specs.declared.entries.Entry.{Entry}
use Rattle.asa_pair_trie.specs.declared.arenas.OuterNode.{OuterNode}
use Rattle.asa_pair_trie.specs.declared.arenas.InnerNode.{InnerNode}
use Rattle.asa_pair_trie.specs.declared.arenas.Slot.{Slot}
use Rattle.asa_pair_trie.specs.Pairs.{covers_both, lesser, first_of}

-- the nodes and slots of compiled entries
pub record Arenas : Type 0 where
  pub outer : List OuterNode
  pub inner : List InnerNode
  pub slots : List Slot

-- the entries that slots hold
abbrev pub entries_in : List Slot → List Entry
entries_in slots = map (λ s. s.entry) slots

-- a least rank, and how many entries are at most read to find it
pub record Seen : Type 0 where
  pub rank : Option ℕ
  pub read : ℕ

-- both together
abbrev pub both : Seen → Seen → Seen
both a b = record { rank = lesser a.rank b.rank; read = a.read + b.read }

abbrev pub seeing : Joining Seen
seeing = record { op = both; unit = record { rank = None; read = 0 } }

-- one entry: its rank, where its service holds the packet
abbrev pub seen : Packet → Entry → Seen
seen p e = record { rank = if service_holds e.service p then Some e.rank else None; read = 1 }

-- the slots from this link on, at most so many of them
unfoldable pub chain : List Slot → Packet → ℕ → ℕ → Seen
chain slots p zero at = record { rank = None; read = 0 }
chain slots p (suc fuel) at = elim (node_at slots at) as (λ _. Seen) [
  | None ↦ record { rank = None; read = 0 }
  | Some s ↦ both (seen p s.entry) (chain slots p fuel s.next)
]

abbrev pub inner_links : Links InnerNode
inner_links = record { prefix_of = λ n. n.prefix; left_of = λ n. n.left; right_of = λ n. n.right }

abbrev pub outer_links : Links OuterNode
outer_links = record { prefix_of = λ n. n.prefix; left_of = λ n. n.left; right_of = λ n. n.right }

-- the chain of a node
abbrev pub inner_value : List Slot → Packet → InnerNode → Seen
inner_value slots p n = chain slots p n.slot n.slot

-- the chains of the nodes from this root on that cover the packet's destination
abbrev pub inner_found : List Slot → List InnerNode → Packet → ℕ → Seen
inner_found slots inner p root = walk seeing inner_links (inner_value slots p) inner 33 root p.dst.0

-- the inner trie of a node
abbrev pub outer_value : List Slot → List InnerNode → Packet → OuterNode → Seen
outer_value slots inner p n = inner_found slots inner p n.inner

-- the inner tries of the nodes that cover the packet's source; the last node is the root
abbrev pub found : Arenas → Packet → Seen
found t p = walk seeing outer_links (outer_value t.slots t.inner p) t.outer 33 (length t.outer) p.src.0

-- the next slot stands before this one, and its rank is no smaller
pub record IsRisingAt (slots : List Slot) (i : ℕ) (s : Slot) : Type 0 where
  pub before : s.next < i
  pub rises : (t : Slot) → node_at slots s.next ≡ Some t → s.entry.rank ≤ t.entry.rank

-- along each chain the ranks never fall
abbrev pub IsRising : List Slot → Type 0
IsRising slots = (i : ℕ) (s : Slot) → node_at slots i ≡ Some s → IsRisingAt slots i s

-- what is true of every compiled value: for every packet the nodes lead to the least rank of the entries that hold it,
-- over as many entries as cover its addresses
pub record IsPairTrie (t : Arenas) : Type 0 where
  pub outer_trie : IsTrie outer_links t.outer
  pub inner_trie : IsTrie inner_links t.inner
  pub few_slots : length t.slots < 2 ^ 32
  pub rising : IsRising t.slots
  pub decides : (p : Packet) → (found t p).rank ≡ first_of (entries_in t.slots) p
  pub reads : (p : Packet) → (found t p).read ≡ length (filter (covers_both p) (entries_in t.slots))

-- the link to the half of a prefix's block that has the address
abbrev pub half : Network → ℕ → ℕ → ℕ → ℕ
half prefix left right a = if bit_below (height prefix) a then right else left

-- a node that is read costs a tick
abbrev pub ticks : Option Slot → ℕ
ticks None = 0
ticks (Some _) = 1

-- the rank is less than the least one so far
abbrev pub precedes : ℕ → Option ℕ → Bool
precedes rank None = true
precedes rank (Some least) = nat_lt rank least
