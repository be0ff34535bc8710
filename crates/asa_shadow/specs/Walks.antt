-- A walk over cut trees: what waits, and what was found so far.
use Rattle.std.specs.Prelude.{◌≡◌, ℕ, ◌+◌, ◌-◌, ◌<◌, ◌≤◌, Bool, true, false, List, [], ◌∷◌, ◌++◌, length, map, reverse, slice_get, Option, Some, None}
use Rattle.std.specs.List.{flat_map}
use Rattle.asa_base.specs.declared.flow.Packet.{Packet}
use Rattle.asa_shadow.specs.declared.region.Span.{Span}
use Rattle.asa_shadow.specs.declared.box_at.BoxAt.{BoxAt}
use Rattle.asa_shadow.specs.declared.node.Node.{Node}
use Rattle.asa_shadow.specs.declared.walk.Part.{Part}
use Rattle.asa_shadow.specs.declared.walk.Found.{Found}
use Rattle.asa_shadow.specs.declared.walk.Walk.{Walk}
use Rattle.asa_shadow.specs.CutTrees.{Numbered, Place, numbered, earlier_from, tree_of, nodes_of, cuts_of, packet_of}

-- the region of a box, where there is one
abbrev pub region_if_any : Option BoxAt → List Span
region_if_any None = []
region_if_any (Some b) = b.region

-- the region of a box, by its number from 1
abbrev pub region_at : List BoxAt → ℕ → List Span
region_at boxes n = region_if_any (slice_get boxes (n - 1))

-- the boxes with these numbers
abbrev pub named : List BoxAt → List ℕ → List Numbered
named boxes ns = map (λ n. numbered n (region_at boxes n)) ns

-- the tree of a part
abbrev pub part_tree : List BoxAt → Part → List Place
part_tree boxes w = tree_of (named boxes w.earlier) w.region

-- the trees of the parts that wait, the last one first
unfoldable pub pending : List BoxAt → List Part → List Place
pending boxes ws = flat_map (part_tree boxes) (reverse ws)

-- a packet, or else a later one
abbrev pub or_later : Option Packet → Option Packet → Option Packet
or_later None later = later
or_later (Some p) _ = Some p

-- what was found, together with places that are left, is what all of the places say
pub record IsLeft (nodes : List Node) (found : Found) (left : List Place) (nodes' : List Node) (found' : Found) (left' : List Place) : Type 0 where
  pub same_nodes : nodes' ++ nodes_of left' ≡ nodes ++ nodes_of left
  pub same_cuts : found'.cuts + cuts_of left' ≡ found.cuts + cuts_of left
  pub same_packet : or_later found'.packet (packet_of left') ≡ or_later found.packet (packet_of left)

-- a walk takes one place of a part's tree
pub record Steps (boxes : List BoxAt) (w : Part) (old new : Walk) : Type 0 where
  pub left : IsLeft old.nodes.items old.found (part_tree boxes w ++ pending boxes old.waiting.items) new.nodes.items new.found (pending boxes new.waiting.items)
  pub fewer : length (pending boxes new.waiting.items) < length (part_tree boxes w ++ pending boxes old.waiting.items)

-- a tree was walked: its nodes, and what was found before and after it
pub record IsWalked (t : List Place) (old : Found) (nodes : List Node) (new : Found) : Type 0 where
  pub all_nodes : nodes ≡ nodes_of t
  pub all_cuts : new.cuts ≡ old.cuts + cuts_of t
  pub first_packet : new.packet ≡ or_later old.packet (packet_of t)

-- the trees of boxes over earlier ones
abbrev pub trees_over : List Numbered → List BoxAt → List (List Place)
trees_over earlier bs = map (λ b. tree_of earlier b.region) bs

-- a number, where it counts
abbrev pub number_if : Bool → ℕ → List ℕ
number_if true n = n ∷ []
number_if false n = []

-- what was found of trees, together with trees that are left, is what all of the trees say
pub record AreLeft (all : List (List Place)) (found : Found) (trees : List (List Node)) (rest : List (List Place)) : Type 0 where
  pub same_trees : trees ++ map nodes_of rest ≡ map nodes_of all
  pub same_cuts : found.cuts + cuts_of (flat_map (λ t. t) rest) ≡ cuts_of (flat_map (λ t. t) all)
  pub same_packet : or_later found.packet (packet_of (flat_map (λ t. t) rest)) ≡ packet_of (flat_map (λ t. t) all)

-- what all of the trees say
pub record IsTold (all : List (List Place)) (found : Found) (trees : List (List Node)) : Type 0 where
  pub all_trees : trees ≡ map nodes_of all
  pub all_cuts : found.cuts ≡ cuts_of (flat_map (λ t. t) all)
  pub first_packet : found.packet ≡ packet_of (flat_map (λ t. t) all)
