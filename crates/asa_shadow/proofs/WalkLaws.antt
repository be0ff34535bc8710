-- A step of a walk over cut trees takes one place of the tree of a part.
use Rattle.std.proofs.Common.{◌≡◌, ℕ, suc, ◌+◌, ◌-◌, ◌<◌, ◌≤◌, Bool, true, false, if◌then◌else◌, nat_le, nat_lt, List, [], ◌∷◌, ◌++◌, append_assoc, append-nil, add-zero, length, length-append, drop, drop-cons, get_or, slice_get, map, filter, reverse, Option, Some, None, refl, sym, ap, subst, ◌∙◌, arith}
use Rattle.std.specs.List.{flat_map}
use Rattle.std.proofs.lemmas.List.{map-append, reverse-append}
use Rattle.std.proofs.lemmas.Option.{slice_get-get_or}
use Rattle.asa_base.specs.declared.flow.Packet.{Packet}
use Rattle.asa_shadow.specs.declared.region.Span.{Span}
use Rattle.asa_shadow.specs.declared.region.Cut.{Cut}
use Rattle.asa_shadow.specs.declared.box_at.BoxAt.{BoxAt}
use Rattle.asa_shadow.specs.declared.node.Node.{Node}
use Rattle.asa_shadow.specs.declared.node.Node.TheVariants as node
use Rattle.asa_shadow.specs.declared.walk.Part.{Part}
use Rattle.asa_shadow.specs.declared.walk.Found.{Found}
use Rattle.asa_shadow.specs.declared.walk.Walk.{Walk}
use Rattle.asa_shadow.specs.Regions.{is_region, is_inside, meets, span_in, lower, upper}
use Rattle.asa_shadow.specs.CutTrees.{Numbered, Place, Held, Free, numbered, first_meeting, cut_of, earlier_from, least_packet, tree_of, nodes_of, cuts_of, packet_of}
use Rattle.asa_shadow.specs.Walks.{region_at, region_if_any, number_if, named, part_tree, pending, trees_over, or_later, IsLeft, IsWalked, Steps}
use Rattle.asa_shadow.proofs.RegionLaws.{inside_parts}
use Rattle.asa_shadow.proofs.CutLaws.{meets_lower, meets_upper}
use Rattle.asa_shadow.proofs.TreeLaws.{tree_free, tree_covered, tree_cut, tree_sifted}

-- no region is without dimensions
pub none_meets : (r : List Span) → is_region r ≡ true → meets [] r ≡ false
none_meets [] is = absurd (cc)
none_meets (s ∷ ss) is = refl

-- numbers that pass a test of their boxes
named_filter : (boxes : List BoxAt) (keep : Numbered → Bool) (ns : List ℕ) →
    named boxes (filter (λ n. keep (numbered n (region_at boxes n))) ns) ≡ filter keep (named boxes ns)
named_filter boxes keep [] = refl
named_filter boxes keep (n ∷ ns) = by_keep (keep (numbered n (region_at boxes n))) (named_filter boxes keep ns)
  where
    by_keep : (k : Bool) → named boxes (filter (λ n. keep (numbered n (region_at boxes n))) ns) ≡ filter keep (named boxes ns)
        → named boxes (if k then n ∷ filter (λ n. keep (numbered n (region_at boxes n))) ns else filter (λ n. keep (numbered n (region_at boxes n))) ns)
        ≡ (if k then numbered n (region_at boxes n) ∷ filter keep (named boxes ns) else filter keep (named boxes ns))
    by_keep true e = ap (λ t. numbered n (region_at boxes n) ∷ t) e
    by_keep false e = e

-- boxes that don't meet a region may be dropped from the numbers of its earlier boxes
pub met_tree : (boxes : List BoxAt) (ns : List ℕ) (r : List Span) →
    tree_of (named boxes (filter (λ n. meets (region_at boxes n) r) ns)) r ≡ tree_of (named boxes ns) r
met_tree boxes ns r =
    ap (λ es. tree_of es r) (named_filter boxes (λ b. meets b.region r) ns) ∙ tree_sifted (λ b. meets b.region r) (named boxes ns) r (λ b meet. meet)

pub lower_tree : (boxes : List BoxAt) (ns : List ℕ) (r : List Span) (c : Cut) → is_inside r c ≡ true →
    tree_of (named boxes (filter (λ n. nat_le (span_in (region_at boxes n) c.dim).low c.at) ns)) (lower r c) ≡ tree_of (named boxes ns) (lower r c)
lower_tree boxes ns r c inside =
    let i = inside_parts r c inside in
    ap (λ es. tree_of es (lower r c)) (named_filter boxes (λ b. nat_le (span_in b.region c.dim).low c.at) ns)
    ∙ tree_sifted (λ b. nat_le (span_in b.region c.dim).low c.at) (named boxes ns) (lower r c) (λ b meet. (meets_lower b.region r (c.dim - 1) c.at i meet).1)

pub upper_tree : (boxes : List BoxAt) (ns : List ℕ) (r : List Span) (c : Cut) → is_inside r c ≡ true →
    tree_of (named boxes (filter (λ n. nat_lt c.at (span_in (region_at boxes n) c.dim).high) ns)) (upper r c) ≡ tree_of (named boxes ns) (upper r c)
upper_tree boxes ns r c inside =
    let i = inside_parts r c inside in
    ap (λ es. tree_of es (upper r c)) (named_filter boxes (λ b. nat_lt c.at (span_in b.region c.dim).high) ns)
    ∙ tree_sifted (λ b. nat_lt c.at (span_in b.region c.dim).high) (named boxes ns) (upper r c) (λ b meet. (meets_upper b.region r (c.dim - 1) c.at i meet).1)

-- the tree of the part that waits last comes first
pub pending_push : (boxes : List BoxAt) (ws : List Part) (w : Part) → pending boxes (ws ++ w ∷ []) ≡ part_tree boxes w ++ pending boxes ws
unfolding pending
pending_push boxes ws w = ap (flat_map (part_tree boxes)) (reverse-append ws (w ∷ []))

pub pending_none : (boxes : List BoxAt) → pending boxes [] ≡ []
unfolding pending
pending_none boxes = refl

-- a leaf with a packet is taken
left_free : (nodes : List Node) (found : Found) (p : Packet) (ps : List Place) →
    IsLeft nodes found (Free p ∷ ps) nodes (record { cuts = found.cuts; packet = or_later found.packet (Some p) }) ps
left_free nodes found p ps = record { same_nodes = refl; same_cuts = refl; same_packet = first found.packet }
  where
    first : (o : Option Packet) → or_later (or_later o (Some p)) (packet_of ps) ≡ or_later o (Some p)
    first None = refl
    first (Some q) = refl

-- a leaf that a box holds is taken
left_covered : (nodes : List Node) (found : Found) (by : ℕ) (ps : List Place) →
    IsLeft nodes found (Held (node.Covered by) ∷ ps) (nodes ++ node.Covered by ∷ []) found ps
left_covered nodes found by ps = record { same_nodes = append_assoc nodes (node.Covered by ∷ []) (nodes_of ps); same_cuts = refl; same_packet = refl }

-- a cut is taken
left_cut : (nodes : List Node) (found : Found) (dim at : ℕ) (ps : List Place) →
    IsLeft nodes found (Held (node.Cut dim at) ∷ ps) (nodes ++ node.Cut dim at ∷ []) (record { cuts = found.cuts + 1; packet = found.packet }) ps
left_cut nodes found dim at ps = record { same_nodes = append_assoc nodes (node.Cut dim at ∷ []) (nodes_of ps); same_cuts = omega arith; same_packet = refl }

pub steps_free : (boxes : List BoxAt) (w : Part) (old new : Walk) → first_meeting (named boxes w.earlier) w.region ≡ None
    → new.waiting.items ≡ old.waiting.items → new.nodes.items ≡ old.nodes.items
    → new.found ≡ record { cuts = old.found.cuts; packet = or_later old.found.packet (Some (least_packet w.region)) } → Steps boxes w old new
steps_free boxes w old new none waiting nodes found =
    let t = tree_free (named boxes w.earlier) w.region none in
    let ps = pending boxes old.waiting.items in
    record {
      left = rw (t, waiting, nodes, found) (left_free old.nodes.items old.found (least_packet w.region) ps);
      fewer = rw (t, waiting) (omega arith);
    }

pub steps_covered : (boxes : List BoxAt) (w : Part) (n : ℕ) (old new : Walk) → first_meeting (named boxes w.earlier) w.region ≡ Some (numbered n (region_at boxes n))
    → cut_of (region_at boxes n) w.region ≡ None
    → new.waiting.items ≡ old.waiting.items → new.nodes.items ≡ old.nodes.items ++ node.Covered n ∷ [] → new.found ≡ old.found → Steps boxes w old new
steps_covered boxes w n old new first uncut waiting nodes found =
    let t = tree_covered (named boxes w.earlier) w.region (numbered n (region_at boxes n)) first uncut in
    let ps = pending boxes old.waiting.items in
    record {
      left = rw (t, waiting, nodes, found) (left_covered old.nodes.items old.found n ps);
      fewer = rw (t, waiting) (omega arith);
    }

pub steps_cut : (boxes : List BoxAt) (w low high : Part) (n : ℕ) (c : Cut) (old new : Walk)
    → first_meeting (named boxes w.earlier) w.region ≡ Some (numbered n (region_at boxes n))
    → cut_of (region_at boxes n) w.region ≡ Some c
    → part_tree boxes low ≡ tree_of (named boxes w.earlier) (lower w.region c)
    → part_tree boxes high ≡ tree_of (named boxes w.earlier) (upper w.region c)
    → new.waiting.items ≡ old.waiting.items ++ high ∷ [] ++ low ∷ [] → new.nodes.items ≡ old.nodes.items ++ node.Cut c.dim c.at ∷ []
    → new.found ≡ record { cuts = old.found.cuts + 1; packet = old.found.packet } → Steps boxes w old new
steps_cut boxes w low high n c old new first cut below above waiting nodes found =
    let t = tree_cut (named boxes w.earlier) w.region (numbered n (region_at boxes n)) c first cut in
    let ps = pending boxes old.waiting.items in
    let after : pending boxes new.waiting.items ≡ (tree_of (named boxes w.earlier) (lower w.region c) ++ tree_of (named boxes w.earlier) (upper w.region c)) ++ ps =
    ap (pending boxes) waiting ∙ pending_push boxes (old.waiting.items ++ high ∷ []) low ∙ ap (λ x. part_tree boxes low ++ x) (pending_push boxes old.waiting.items high)
    ∙ ap (λ x. x ++ (part_tree boxes high ++ ps)) below
    ∙ ap (λ x. tree_of (named boxes w.earlier) (lower w.region c) ++ (x ++ ps)) above
    ∙ sym (append_assoc (tree_of (named boxes w.earlier) (lower w.region c)) (tree_of (named boxes w.earlier) (upper w.region c)) ps) in
    record {
      left = rw (t, after, nodes, found) (left_cut old.nodes.items old.found c.dim c.at
          ((tree_of (named boxes w.earlier) (lower w.region c) ++ tree_of (named boxes w.earlier) (upper w.region c)) ++ ps));
      fewer = rw (t, after) (omega arith);
    }

-- one step after another
left_trans : (nodes nodes' nodes'' : List Node) (found found' found'' : Found) (ps ps' ps'' : List Place) →
    IsLeft nodes found ps nodes' found' ps' → IsLeft nodes' found' ps' nodes'' found'' ps'' → IsLeft nodes found ps nodes'' found'' ps''
left_trans nodes nodes' nodes'' found found' found'' ps ps' ps'' a b = record {
  same_nodes = b.same_nodes ∙ a.same_nodes;
  same_cuts = b.same_cuts ∙ a.same_cuts;
  same_packet = b.same_packet ∙ a.same_packet;
}

-- a step from where a part waits last
pub left_step : (boxes : List BoxAt) (w : Part) (found : Found) (ps : List Place) (nodes : List Node) (now : Found) (waiting : List Part) (old new : Walk) →
    IsLeft [] found ps nodes now (pending boxes waiting) → waiting ≡ old.waiting.items ++ w ∷ [] → old.nodes.items ≡ nodes → old.found ≡ now
    → Steps boxes w old new → IsLeft [] found ps new.nodes.items new.found (pending boxes new.waiting.items)
left_step boxes w found ps nodes now waiting old new left popped nodes_same found_same step =
    let e : pending boxes waiting ≡ part_tree boxes w ++ pending boxes old.waiting.items = ap (pending boxes) popped ∙ pending_push boxes old.waiting.items w in
    let now_left : IsLeft [] found ps old.nodes.items old.found (part_tree boxes w ++ pending boxes old.waiting.items) =
    rw (nodes_same, found_same, ← e) left in
    left_trans [] old.nodes.items new.nodes.items found old.found new.found ps (part_tree boxes w ++ pending boxes old.waiting.items) (pending boxes new.waiting.items) now_left step.left

pub fewer_step : (boxes : List BoxAt) (w : Part) (waiting : List Part) (old new : Walk) → waiting ≡ old.waiting.items ++ w ∷ [] → Steps boxes w old new
    → length (pending boxes new.waiting.items) < length (pending boxes waiting)
fewer_step boxes w waiting old new popped step =
    let e : pending boxes waiting ≡ part_tree boxes w ++ pending boxes old.waiting.items = ap (pending boxes) popped ∙ pending_push boxes old.waiting.items w in
    rw e step.fewer

-- where nothing waits, the tree was walked
pub left_none : (boxes : List BoxAt) (found : Found) (t : List Place) (nodes : List Node) (now : Found) (waiting : List Part) → waiting ≡ []
    → IsLeft [] found t nodes now (pending boxes waiting) → IsWalked t found nodes now
left_none boxes found t nodes now waiting none left =
    let e : pending boxes waiting ≡ [] = ap (pending boxes) none ∙ pending_none boxes in
    let h = rw e at left in
    record {
      all_nodes = sym (append-nil nodes) ∙ h.same_nodes;
      all_cuts = sym (add-zero now.cuts) ∙ h.same_cuts;
      first_packet = sym (or_none now.packet) ∙ h.same_packet;
    }
  where
    or_none : (o : Option Packet) → or_later o None ≡ o
    or_none None = refl
    or_none (Some p) = refl

-- as many cuts as were found are there
pub left_cuts : (boxes : List BoxAt) (found : Found) (t : List Place) (nodes : List Node) (now : Found) (waiting : List Part) →
    IsLeft [] found t nodes now (pending boxes waiting) → now.cuts ≤ found.cuts + cuts_of t
left_cuts boxes found t nodes now waiting left = omega (arith, left.same_cuts)

-- a walk begins with one part
pub left_start : (boxes : List BoxAt) (found : Found) (w : Part) (waiting : List Part) → waiting ≡ w ∷ [] → IsLeft [] found (part_tree boxes w) [] found (pending boxes waiting)
left_start boxes found w waiting one =
    let e : pending boxes waiting ≡ part_tree boxes w =
    ap (pending boxes) one ∙ pending_push boxes [] w ∙ ap (λ ps. part_tree boxes w ++ ps) (pending_none boxes) ∙ append-nil (part_tree boxes w) in
    rw e (record { same_nodes = refl; same_cuts = refl; same_packet = refl })

-- the region of an item
pub region_at_item : (boxes : List BoxAt) (i : ℕ) (b : BoxAt) → i < length boxes → b ≡ get_or boxes i b → region_at boxes (i + 1) ≡ b.region
region_at_item boxes i b less is =
    let s : i + 1 - 1 ≡ i = omega arith in
    ap (λ n. region_if_any (slice_get boxes n)) s ∙ ap region_if_any (slice_get-get_or boxes i b less) ∙ ap (λ (x : BoxAt). x.region) (sym is)

-- one more box
pub earlier_more : (boxes : List BoxAt) (line : ℕ) (ns : List ℕ) (i : ℕ) (b : BoxAt) → i < length boxes → b ≡ get_or boxes i b
    → named boxes (ns ++ number_if (nat_lt b.line line) (i + 1)) ++ earlier_from line (i + 1 + 1) (drop (i + 1) boxes)
    ≡ named boxes ns ++ earlier_from line (i + 1) (drop i boxes)
earlier_more boxes line ns i b less is =
    let rest = earlier_from line (i + 1 + 1) (drop (i + 1) boxes) in
    let cut : drop i boxes ≡ b ∷ drop (i + 1) boxes = drop-cons boxes i b less ∙ ap (λ x. x ∷ drop (suc i) boxes) (sym is) ∙ ap (λ n. b ∷ drop n boxes) (next i) in
    ap (λ t. t ++ rest) (map-append (λ n. numbered n (region_at boxes n)) ns (number_if (nat_lt b.line line) (i + 1)))
    ∙ append_assoc (named boxes ns) (named boxes (number_if (nat_lt b.line line) (i + 1))) rest
    ∙ ap (λ t. named boxes ns ++ t) (by_line (nat_lt b.line line) rest ∙ sym (ap (earlier_from line (i + 1)) cut))
  where
    next : (i : ℕ) → suc i ≡ i + 1
    next i = omega arith

    by_line : (t : Bool) (rest : List Numbered) →
        named boxes (number_if t (i + 1)) ++ rest ≡ (if t then numbered (i + 1) b.region ∷ rest else rest)
    by_line true rest = ap (λ r. numbered (i + 1) r ∷ rest) (region_at_item boxes i b less is)
    by_line false rest = refl

-- the tree of the next box comes first
pub trees_next : (earlier : List Numbered) (starts : List BoxAt) (i : ℕ) (b : BoxAt) → i < length starts → b ≡ get_or starts i b
    → trees_over earlier (drop i starts) ≡ tree_of earlier b.region ∷ trees_over earlier (drop (i + 1) starts)
trees_next earlier starts i b less is =
    let next : suc i ≡ i + 1 = omega arith in
    let cut : drop i starts ≡ b ∷ drop (i + 1) starts = drop-cons starts i b less ∙ ap (λ x. x ∷ drop (suc i) starts) (sym is) ∙ ap (λ n. b ∷ drop n starts) next in
    ap (trees_over earlier) cut
