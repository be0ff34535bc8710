-- The cut tree of a region: which box of an earlier line holds each part of it, or the packet of a part that none holds.
use Rattle.std.specs.Prelude.{◌≡◌, ℕ, zero, suc, ◌+◌, ◌-◌, Bool, true, false, ◌&&◌, ◌==◌, nat_le, nat_lt, List, [], ◌∷◌, ◌++◌, map, length, Option, Some, None, if◌then◌else◌}
use Rattle.std.specs.List.{find, flat_map}
use Rattle.asa_base.specs.declared.flow.Packet.{Packet}
use Rattle.asa_shadow.specs.declared.region.Span.{Span}
use Rattle.asa_shadow.specs.declared.region.Cut.{Cut}
use Rattle.asa_shadow.specs.declared.box_at.BoxAt.{BoxAt}
use Rattle.asa_shadow.specs.declared.node.Node.{Node}
use Rattle.asa_shadow.specs.declared.node.Node.TheVariants as node
use Rattle.asa_shadow.specs.declared.finding.Finding.{Finding}
use Rattle.asa_shadow.specs.declared.finding.Finding.TheVariants as finding
use Rattle.asa_shadow.specs.Regions.{meets, lower, upper, span_in}
use Rattle.asa_shadow.specs.Matches.{is_first}
use Rattle.asa_shadow.specs.Certificates.{cut_at, boxes_of_line, is_certificate}

-- a box with its number in its list, from 1
pub record Numbered : Type 0 where
  pub number : ℕ
  pub region : List Span

abbrev pub numbered : ℕ → List Span → Numbered
numbered n r = record { number = n; region = r }

-- the boxes of the lines before a line, where the first of these boxes has the number n
abbrev pub earlier_from : ℕ → ℕ → List BoxAt → List Numbered
earlier_from line n [] = []
earlier_from line n (b ∷ bs) = if nat_lt b.line line then numbered n b.region ∷ earlier_from line (n + 1) bs else earlier_from line (n + 1) bs

-- the first bound of a box that crosses a region: by dimension, of which the first is `dim`, and the lower bound before
-- the upper; none where the box contains the region
abbrev pub cut_from : ℕ → List Span → List Span → Option Cut
cut_from dim [] _ = None
cut_from dim (_ ∷ _) [] = None
cut_from dim (b ∷ bs) (r ∷ rs) =
    if nat_lt r.low b.low then Some (cut_at dim (b.low - 1))
    else (if nat_lt b.high r.high then Some (cut_at dim b.high)
    else cut_from (dim + 1) bs rs)

abbrev pub cut_of : List Span → List Span → Option Cut
cut_of box r = cut_from 1 box r

-- the packet of the least numbers of a region
abbrev pub least_packet : List Span → Packet
least_packet r = record {
  ifc = 0;
  proto = (span_in r 3).low;
  src = record { 0 = (span_in r 1).low };
  sport = (span_in r 4).low;
  dst = record { 0 = (span_in r 2).low };
  dport = (span_in r 5).low;
  flags = 0;
  itype = (span_in r 6).low;
  icode = (span_in r 7).low;
}

-- a place of a cut tree: a node, or a leaf with the packet of a region that no earlier box meets
pub data Place : Type 0 where
  Held : Node → Place
  Free : Packet → Place

-- the first box that meets the region
abbrev pub first_meeting : List Numbered → List Span → Option Numbered
first_meeting earlier r = find (λ b. meets b.region r) earlier

-- a region that a box meets: a leaf with that box, or a cut with the trees of both parts, the lower first
abbrev pub parted : (List Span → List Place) → List Span → ℕ → Option Cut → List Place
parted halves r by None = Held (node.Covered by) ∷ []
parted halves r by (Some c) = Held (node.Cut c.dim c.at) ∷ (halves (lower r c) ++ halves (upper r c))

-- a region that no box meets is a leaf with its packet
abbrev pub rooted : (List Span → List Place) → List Span → Option Numbered → List Place
rooted halves r None = Free (least_packet r) ∷ []
rooted halves r (Some b) = parted halves r b.number (cut_of b.region r)

-- the tree of a region over earlier boxes, in preorder, if fewer than this many cuts lie one in another
abbrev pub tree_within : ℕ → List Numbered → List Span → List Place
tree_within zero earlier r = []
tree_within (suc n) earlier r = rooted (tree_within n earlier) r (first_meeting earlier r)

-- how many numbers there are above the least in all dimensions together; each part of a cut has fewer
abbrev pub extent : List Span → ℕ
extent [] = 0
extent (s ∷ ss) = (s.high - s.low) + extent ss

-- the cut tree of a region over earlier boxes, in preorder
unfoldable pub tree_of : List Numbered → List Span → List Place
tree_of earlier r = tree_within (extent r + 1) earlier r

-- the trees of a line: those of its boxes in order, over the boxes of the earlier lines
abbrev pub trees_of : List BoxAt → ℕ → List (List Place)
trees_of boxes line = map (λ b. tree_of (earlier_from line 1 boxes) b.region) (boxes_of_line boxes line)

-- the nodes of a tree
abbrev pub nodes_of : List Place → List Node
nodes_of [] = []
nodes_of (Held n ∷ ps) = n ∷ nodes_of ps
nodes_of (Free _ ∷ ps) = nodes_of ps

-- the cuts of a tree
abbrev pub cuts_of : List Place → ℕ
cuts_of [] = 0
cuts_of (Held (node.Cut _ _) ∷ ps) = suc (cuts_of ps)
cuts_of (Held (node.Covered _) ∷ ps) = cuts_of ps
cuts_of (Free _ ∷ ps) = cuts_of ps

-- the packet of the first leaf that has one
abbrev pub packet_of : List Place → Option Packet
packet_of [] = None
packet_of (Held _ ∷ ps) = packet_of ps
packet_of (Free p ∷ ps) = Some p

-- what trees with fewer cuts than the limit say
abbrev pub found_in : ℕ → Option Packet → List (List Node) → Finding
found_in cuts None trees = finding.Yes cuts trees
found_in cuts (Some p) trees = finding.No p

-- the finding of a line: unknown where its trees have as many cuts as the limit or more
unfoldable pub finding_of : List BoxAt → ℕ → ℕ → Finding
finding_of boxes line limit =
    if nat_le limit (cuts_of (flat_map (λ t. t) (trees_of boxes line))) then finding.Unknown limit
    else found_in (cuts_of (flat_map (λ t. t) (trees_of boxes line))) (packet_of (flat_map (λ t. t) (trees_of boxes line))) (map nodes_of (trees_of boxes line))

-- after Yes its trees are a certificate
abbrev pub IsAccepted : List BoxAt → ℕ → Finding → Type 0
IsAccepted boxes line (finding.Yes cuts trees) = is_certificate boxes line trees ≡ true
IsAccepted boxes line (finding.No p) = Unit {0}
IsAccepted boxes line (finding.Unknown cuts) = Unit {0}

-- after No its packet first matches the line
abbrev pub IsMatched : List BoxAt → ℕ → Finding → Type 0
IsMatched boxes line (finding.Yes cuts trees) = Unit {0}
IsMatched boxes line (finding.No p) = is_first boxes line p ≡ true
IsMatched boxes line (finding.Unknown cuts) = Unit {0}
