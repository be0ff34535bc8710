-- Tries of networks in a list of nodes: what a walk along the bits of an address finds.
use Rattle.std.specs.Prelude.{◌≡◌, ℕ, zero, suc, ◌+◌, ◌-◌, ◌*◌, ◌^◌, ◌<◌, ◌≤◌, IsTrue, List, [], ◌∷◌, length, slice_get, Option, Some, None, if◌then◌else◌}
use Rattle.asa_base.specs.Networks.{Network}
use Rattle.asa_trie.specs.Bits.{height, covers_number, bit_below, IsWithin}

-- a way to join values, with a value that changes nothing
pub record Joining (M : Type 0) : Type 0 where
  pub op : M → M → M
  pub unit : M

-- joining is a commutative monoid
pub record Laws {M : Type 0} (j : Joining M) : Type 0 where
  pub assoc : (a b c : M) → j.op (j.op a b) c ≡ j.op a (j.op b c)
  pub comm : (a b : M) → j.op a b ≡ j.op b a
  pub unit_left : (a : M) → j.op j.unit a ≡ a

-- where a node's prefix and the links to its children stand
pub record Links (N : Type 0) : Type 0 where
  pub prefix_of : N → Network
  pub left_of : N → ℕ
  pub right_of : N → ℕ

-- a link is 0 for no node, and else a node's place plus 1
abbrev pub node_at : {N : Type 0} → List N → ℕ → Option N
node_at xs zero = None
node_at xs (suc i) = slice_get xs i

-- the link to the half of the node's block that has the address
abbrev pub child : {N : Type 0} → Links N → N → ℕ → ℕ
child l n a = if bit_below (height (l.prefix_of n)) a then l.right_of n else l.left_of n

-- the node of a link, where there is one and its prefix covers the address
abbrev pub covering : {N : Type 0} → Links N → List N → ℕ → ℕ → Option N
covering {N} l xs at a = of_node (node_at xs at)
  where
    of_node : Option N → Option N
    of_node None = None
    of_node (Some n) = if covers_number (l.prefix_of n) a then Some n else None

-- the joined values of the nodes on the way to the address that cover it, over at most `fuel` nodes
unfoldable pub walk : {N M : Type 0} → Joining M → Links N → (N → M) → List N → ℕ → ℕ → ℕ → M
walk {N} {M} j l v xs zero at a = j.unit
walk {N} {M} j l v xs (suc fuel) at a = elim (node_at xs at) as (λ _. M) [
  | None ↦ j.unit
  | Some n ↦ (if covers_number (l.prefix_of n) a then j.op (v n) (walk j l v xs fuel (child l n a) a) else j.unit)
]

-- the joined values of a list
abbrev pub sum_over : {T M : Type 0} → Joining M → (T → M) → List T → M
sum_over j v [] = j.unit
sum_over j v (x ∷ xs) = j.op (v x) (sum_over j v xs)

-- the joined values of the items whose prefix covers the address
abbrev pub total : {T M : Type 0} → Joining M → (T → Network) → (T → M) → List T → ℕ → M
total j pre v xs a = sum_over j (λ x. if covers_number (pre x) a then v x else j.unit) xs

-- every node of the first list stands at the same place of the second
abbrev pub Later : {N : Type 0} → List N → List N → Type 0
Later {N} xs ys = (i : ℕ) (n : N) → node_at xs i ≡ Some n → node_at ys i ≡ Some n

-- in this list and in every later one a walk from this link finds what the items stand for
pub record Holds {N M T : Type 0} (j : Joining M) (l : Links N) (w : N → M) (pre : T → Network) (v : T → M) (xs : List N) (at levels : ℕ) (items : List T) : Type 0 where
  pub found : (ys : List N) → Later xs ys → (fuel a : ℕ) → levels ≤ fuel → walk j l w ys fuel at a ≡ total j pre v items a

-- the second prefix is strictly longer than the first and lies within it
pub record IsInner (p q : Network) : Type 0 where
  pub longer : p.len < q.len
  pub within : IsTrue (covers_number p q.addr.0)

-- the children of a node stand before it, and their prefixes lie strictly within its own
pub record IsNestedAt {N : Type 0} (l : Links N) (xs : List N) (i : ℕ) (n : N) : Type 0 where
  pub left_before : l.left_of n < i
  pub right_before : l.right_of n < i
  pub left_inner : (m : N) → node_at xs (l.left_of n) ≡ Some m → IsInner (l.prefix_of n) (l.prefix_of m)
  pub right_inner : (m : N) → node_at xs (l.right_of n) ≡ Some m → IsInner (l.prefix_of n) (l.prefix_of m)

-- so it is of every node
abbrev pub IsNested : {N : Type 0} → Links N → List N → Type 0
IsNested {N} l xs = (i : ℕ) (n : N) → node_at xs i ≡ Some n → IsNestedAt l xs i n

-- a trie in a list of nodes whose links fit 32 bits
pub record IsTrie {N : Type 0} (l : Links N) (xs : List N) : Type 0 where
  pub few : length xs < 2 ^ 32
  pub nested : IsNested l xs

-- the old nodes stay, and the new ones hold the items of a block, of which the last node is the root
pub record Grown {N M T : Type 0} (j : Joining M) (l : Links N) (w : N → M) (pre : T → Network) (v : T → M) (home : ℕ) (old new : List N) (at levels : ℕ) (items : List T) : Type 0 where
  pub later : Later old new
  pub holds : Holds j l w pre v new at levels items
  pub few : length new ≤ length old + (2 * length items - 1)
  pub grows : length old ≤ length new
  pub top : 0 < length items → at ≡ length new
  pub none : length items ≡ 0 → at ≡ 0
  pub known : at ≤ length new
  pub root : (n : N) → node_at new at ≡ Some n → IsWithin levels home (l.prefix_of n)
  pub nested : IsNested l old → IsNested l new
