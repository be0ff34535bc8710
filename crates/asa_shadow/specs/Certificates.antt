-- What makes a certificate: a tree of cuts for each box of a line, whose leaves lie in boxes of earlier lines.
use Rattle.std.specs.Prelude.{ℕ, ◌-◌, Bool, true, false, ◌&&◌, ◌==◌, nat_lt, List, [], ◌∷◌, filter, slice_get, Option, Some, None}
use Rattle.asa_shadow.specs.declared.region.Span.{Span}
use Rattle.asa_shadow.specs.declared.region.Cut.{Cut}
use Rattle.asa_shadow.specs.declared.box_at.BoxAt.{BoxAt}
use Rattle.asa_shadow.specs.declared.node.Node.{Node}
use Rattle.asa_shadow.specs.declared.node.Node.TheVariants as node
use Rattle.asa_shadow.specs.Regions.{contains, is_inside, lower, upper}

-- the box is there, it is of an earlier line, and it contains the region
abbrev pub covers : ℕ → List Span → Option BoxAt → Bool
covers line r None = false
covers line r (Some b) = nat_lt b.line line && contains b.region r

-- the box with this number, from 1, does
abbrev pub is_covered : List BoxAt → ℕ → List Span → ℕ → Bool
is_covered boxes line r by = nat_lt 0 by && covers line r (slice_get boxes (by - 1))

-- the cut of a node
abbrev pub cut_at : ℕ → ℕ → Cut
cut_at dim at = record { dim = dim; at = at }

-- the nodes are the trees of these regions, one after another: a region is in a box of an earlier line, or a cut inside it
-- is followed by the tree of the part up to the cut and by that of the part above it
abbrev pub are_trees : List BoxAt → ℕ → List (List Span) → List Node → Bool
are_trees boxes line [] [] = true
are_trees boxes line [] (_ ∷ _) = false
are_trees boxes line (_ ∷ _) [] = false
are_trees boxes line (r ∷ rs) (node.Cut dim at ∷ ns) =
    is_inside r (cut_at dim at) && are_trees boxes line (lower r (cut_at dim at) ∷ upper r (cut_at dim at) ∷ rs) ns
are_trees boxes line (r ∷ rs) (node.Covered by ∷ ns) = is_covered boxes line r by && are_trees boxes line rs ns

-- the boxes of a line, in order
abbrev pub boxes_of_line : List BoxAt → ℕ → List BoxAt
boxes_of_line boxes line = filter (λ b. b.line == line) boxes

-- one tree for each of these boxes
abbrev pub have_trees : List BoxAt → ℕ → List BoxAt → List (List Node) → Bool
have_trees boxes line [] [] = true
have_trees boxes line (b ∷ bs) (t ∷ ts) = are_trees boxes line (b.region ∷ []) t && have_trees boxes line bs ts
have_trees boxes line _ _ = false

-- the trees show that no packet first matches the line
unfoldable pub is_certificate : List BoxAt → ℕ → List (List Node) → Bool
is_certificate boxes line trees = have_trees boxes line (boxes_of_line boxes line) trees
