-- The finding of a line: its trees are a certificate, or its packet first matches the line.
use Rattle.std.proofs.Common.{◌≡◌, ℕ, zero, suc, ◌+◌, ◌-◌, ◌<◌, ◌≤◌, Bool, true, false, not, ◌&&◌, ◌||◌, ◌==◌, if◌then◌else◌, cond, nat_le, nat_lt, List, [], ◌∷◌, ◌++◌, append_assoc, append-nil, add-zero, add_assoc, filter, get_or, slice_get, length, drop, map, Option, Some, None, refl, sym, ap, subst, ◌∙◌, ◌⊎◌, ⊎_elim, inl, inr, arith}
use Rattle.std.specs.List.{find, list_any, flat_map}
use Rattle.std.proofs.lemmas.Bool.{and_parts, and_from, or_left, or_right, or_from, lt-ltb, cases_Bool}
use Rattle.std.proofs.lemmas.Bool.Decides.{nat_tests}
use Rattle.asa_base.specs.declared.flow.Packet.{Packet}
use Rattle.asa_shadow.specs.declared.region.Span.{Span}
use Rattle.asa_shadow.specs.declared.region.Cut.{Cut}
use Rattle.asa_shadow.specs.declared.box_at.BoxAt.{BoxAt}
use Rattle.asa_shadow.specs.declared.node.Node.{Node}
use Rattle.asa_shadow.specs.declared.node.Node.TheVariants as node
use Rattle.asa_shadow.specs.declared.finding.Finding.{Finding}
use Rattle.asa_shadow.specs.declared.finding.Finding.TheVariants as finding
use Rattle.asa_shadow.specs.declared.walk.Found.{Found}
use Rattle.asa_shadow.specs.Regions.{contains, everything, has, holds, is_part, are_parts, is_inside, is_region, lower, meets, point_of, span, span_in, upper}
use Rattle.asa_shadow.specs.Matches.{holds_earlier, holds_there, is_first}
use Rattle.asa_shadow.specs.Certificates.{are_trees, boxes_of_line, covers, cut_at, have_trees, is_certificate, is_covered}
use Rattle.asa_shadow.specs.CutTrees.{Numbered, Place, Held, Free, IsAccepted, IsMatched, cut_of, cuts_of, earlier_from, extent, finding_of, first_meeting, found_in, least_packet, nodes_of, numbered, packet_of, parted, rooted, tree_of, tree_within, trees_of}
use Rattle.asa_shadow.specs.Walks.{AreLeft, IsTold, IsWalked, or_later, region_at, region_if_any}
use Rattle.asa_shadow.proofs.RegionLaws.{Inside, inside_parts, region_length, region_lower, region_upper}
use Rattle.asa_shadow.proofs.CutLaws.{cut_inside, extent_lower, extent_upper, holds_meets, lower_holds, uncut_contains, upper_holds}
use Rattle.asa_shadow.proofs.CertificateLaws.{any_filter}
use Rattle.asa_shadow.proofs.TreeLaws.{find_passes}

nodes_append : (ps qs : List Place) → nodes_of (ps ++ qs) ≡ nodes_of ps ++ nodes_of qs
nodes_append [] qs = refl
nodes_append (Held n ∷ ps) qs = ap (λ t. n ∷ t) (nodes_append ps qs)
nodes_append (Free p ∷ ps) qs = nodes_append ps qs

cuts_append : (ps qs : List Place) → cuts_of (ps ++ qs) ≡ cuts_of ps + cuts_of qs
cuts_append [] qs = omega arith
cuts_append (Held (node.Cut d a) ∷ ps) qs = let e = cuts_append ps qs in omega arith
cuts_append (Held (node.Covered by) ∷ ps) qs = cuts_append ps qs
cuts_append (Free p ∷ ps) qs = cuts_append ps qs

packet_append : (ps qs : List Place) → packet_of (ps ++ qs) ≡ or_later (packet_of ps) (packet_of qs)
packet_append [] qs = refl
packet_append (Held n ∷ ps) qs = packet_append ps qs
packet_append (Free p ∷ ps) qs = refl

or_assoc : (a b c : Option Packet) → or_later (or_later a b) c ≡ or_later a (or_later b c)
or_assoc None b c = refl
or_assoc (Some p) b c = refl

or_end : (a : Option Packet) → or_later a None ≡ a
or_end None = refl
or_end (Some p) = refl

-- at the start all trees are left
pub left_first : (all : List (List Place)) (found : Found) (trees : List (List Node)) → found ≡ record { cuts = 0; packet = None } → trees ≡ [] → AreLeft all found trees all
left_first all found trees f t = rw (f, t) (record { same_trees = refl; same_cuts = omega arith; same_packet = refl })

-- one more tree was walked
pub left_tree : (all : List (List Place)) (found now : Found) (trees : List (List Node)) (nodes : List Node) (t : List Place) (rest : List (List Place))
    → AreLeft all found trees (t ∷ rest) → IsWalked t found nodes now → AreLeft all now (trees ++ nodes ∷ []) rest
left_tree all found now trees nodes t rest left walked = record {
  same_trees = append_assoc trees (nodes ∷ []) (map nodes_of rest) ∙ ap (λ n. trees ++ n ∷ map nodes_of rest) walked.all_nodes ∙ left.same_trees;
  same_cuts =
      let e = cuts_append t (flat_map (λ t. t) rest) in
      omega (arith, e, walked.all_cuts, left.same_cuts);
  same_packet =
      ap (λ o. or_later o (packet_of (flat_map (λ t. t) rest))) walked.first_packet
      ∙ or_assoc found.packet (packet_of t) (packet_of (flat_map (λ t. t) rest))
      ∙ ap (or_later found.packet) (sym (packet_append t (flat_map (λ t. t) rest)))
      ∙ left.same_packet;
}

-- no tree is left
pub left_nothing : (all : List (List Place)) (found : Found) (trees : List (List Node)) → AreLeft all found trees [] → IsTold all found trees
left_nothing all found trees left = record {
  all_trees = sym (append-nil trees) ∙ left.same_trees;
  all_cuts = sym (add-zero found.cuts) ∙ left.same_cuts;
  first_packet = sym (or_end found.packet) ∙ left.same_packet;
}

-- the cuts of one tree are among those of all
pub left_reached : (all : List (List Place)) (found : Found) (trees : List (List Node)) (t : List Place) (rest : List (List Place)) (limit : ℕ)
    → AreLeft all found trees (t ∷ rest) → limit ≤ found.cuts + cuts_of t → limit ≤ cuts_of (flat_map (λ t. t) all)
left_reached all found trees t rest limit left reached =
    let e = cuts_append t (flat_map (λ t. t) rest) in omega (arith, e, left.same_cuts)

-- an earlier box is there under its number
pub record IsEarlier (boxes : List BoxAt) (line : ℕ) (e : Numbered) : Type 0 where
  pub some : 0 < e.number
  pub here : BoxAt
  pub is : slice_get boxes (e.number - 1) ≡ Some here
  pub before : nat_lt here.line line ≡ true
  pub same : here.region ≡ e.region

earlier_found : (boxes : List BoxAt) (line : ℕ) (test : Numbered → Bool) (n : ℕ) (bs : List BoxAt) (e : Numbered)
    → ((i : ℕ) → slice_get boxes (n + i) ≡ slice_get bs i) → find test (earlier_from line (n + 1) bs) ≡ Some e → IsEarlier boxes line e
earlier_found boxes line test n [] e there found = absurd (cc)
earlier_found boxes line test n (b ∷ bs) e there found =
    by_line (nat_lt b.line line) (test (numbered (n + 1) b.region)) refl refl
    (earlier_found boxes line test (n + 1) bs e (λ i. let s : n + 1 + i ≡ n + suc i = omega arith in ap (slice_get boxes) s ∙ there (suc i))) found
  where
    by_line : (t u : Bool) → nat_lt b.line line ≡ t → test (numbered (n + 1) b.region) ≡ u
        → (find test (earlier_from line (n + 1 + 1) bs) ≡ Some e → IsEarlier boxes line e)
        → find test (if t then numbered (n + 1) b.region ∷ earlier_from line (n + 1 + 1) bs else earlier_from line (n + 1 + 1) bs) ≡ Some e → IsEarlier boxes line e
    by_line true true before passes later found =
        let h = rw passes at found in
        let same : numbered (n + 1) b.region ≡ e = cc in
        let at_n : n + 1 - 1 ≡ n + 0 = omega arith in
        subst (λ (e : Numbered). IsEarlier boxes line e) same
        (record { some = omega arith; here = b; is = ap (slice_get boxes) at_n ∙ there 0; before = before; same = refl })
    by_line true false before passes later found = later (rw passes at found)
    by_line false u before passes later found = later found

-- a leaf that lies in the first box that meets it is covered
leaf_covered : (boxes : List BoxAt) (line : ℕ) (r : List Span) (b : Numbered) → first_meeting (earlier_from line 1 boxes) r ≡ Some b → contains b.region r ≡ true
    → is_covered boxes line r b.number ≡ true
leaf_covered boxes line r b found inside =
    let e : IsEarlier boxes line b = earlier_found boxes line (λ e. meets e.region r) 0 boxes b (λ i. let s : 0 + i ≡ i = omega arith in ap (slice_get boxes) s) found in
    let there : covers line r (slice_get boxes (b.number - 1)) ≡ true = rw e.is (and_from _ _ e.before (rw e.same inside)) in
    and_from _ _ (lt-ltb 0 b.number e.some) there

or_none : (a b : Option Packet) → or_later a b ≡ None → (a ≡ None) × (b ≡ None)
or_none None b e = (refl, e)
or_none (Some p) b e = absurd (cc)

-- a tree without a packet is accepted
-- what holds of the trees of both parts
abbrev AcceptedWithin : ℕ → List BoxAt → ℕ → Type 0
AcceptedWithin n boxes line = (q : List Span) (qs : List (List Span)) (ms : List Node) → is_region q ≡ true → extent q < n
    → packet_of (tree_within n (earlier_from line 1 boxes) q) ≡ None
    → are_trees boxes line (q ∷ qs) (nodes_of (tree_within n (earlier_from line 1 boxes) q) ++ ms) ≡ are_trees boxes line qs ms

tree_accepted : (n : ℕ) (boxes : List BoxAt) (line : ℕ) (r : List Span) (rs : List (List Span)) (ns : List Node) → is_region r ≡ true → extent r < n
    → packet_of (tree_within n (earlier_from line 1 boxes) r) ≡ None
    → are_trees boxes line (r ∷ rs) (nodes_of (tree_within n (earlier_from line 1 boxes) r) ++ ns) ≡ are_trees boxes line rs ns
tree_accepted zero boxes line r rs ns is less none = absurd (omega arith)
tree_accepted (suc n) boxes line r rs ns is less none =
    by_first (first_meeting (earlier_from line 1 boxes) r) refl (λ q qs ms. tree_accepted n boxes line q qs ms) none
  where
    by_cut : (b : Numbered) (o : Option Cut) → first_meeting (earlier_from line 1 boxes) r ≡ Some b → cut_of b.region r ≡ o → AcceptedWithin n boxes line
        → packet_of (parted (tree_within n (earlier_from line 1 boxes)) r b.number o) ≡ None
        → are_trees boxes line (r ∷ rs) (nodes_of (parted (tree_within n (earlier_from line 1 boxes)) r b.number o) ++ ns) ≡ are_trees boxes line rs ns
    by_cut b None found cut later none =
        let meet = find_passes (λ e. meets e.region r) (earlier_from line 1 boxes) b found in
        rw (leaf_covered boxes line r b found (uncut_contains 1 b.region r meet cut)) refl
    by_cut b (Some c) found cut later none =
        let meet = find_passes (λ e. meets e.region r) (earlier_from line 1 boxes) b found in
        let inside = cut_inside b.region r c is meet cut in
        let i = inside_parts r c inside in
        let low = tree_within n (earlier_from line 1 boxes) (lower r c) in
        let high = tree_within n (earlier_from line 1 boxes) (upper r c) in
        let both = or_none (packet_of low) (packet_of high) (sym (packet_append low high) ∙ none) in
        let smaller_low = extent_lower r (c.dim - 1) c.at i in
        let smaller_high = extent_upper r (c.dim - 1) c.at i in
        ap (λ t. t && are_trees boxes line (lower r c ∷ upper r c ∷ rs) (nodes_of (low ++ high) ++ ns)) inside
        ∙ ap (λ t. are_trees boxes line (lower r c ∷ upper r c ∷ rs) (t ++ ns)) (nodes_append low high)
        ∙ ap (are_trees boxes line (lower r c ∷ upper r c ∷ rs)) (append_assoc (nodes_of low) (nodes_of high) ns)
        ∙ later (lower r c) (upper r c ∷ rs) (nodes_of high ++ ns) (region_lower r c is inside) (omega (arith, smaller_low)) both.0
        ∙ later (upper r c) rs ns (region_upper r c is inside) (omega (arith, smaller_high)) both.1

    by_first : (o : Option Numbered) → first_meeting (earlier_from line 1 boxes) r ≡ o → AcceptedWithin n boxes line
        → packet_of (rooted (tree_within n (earlier_from line 1 boxes)) r o) ≡ None
        → are_trees boxes line (r ∷ rs) (nodes_of (rooted (tree_within n (earlier_from line 1 boxes)) r o) ++ ns) ≡ are_trees boxes line rs ns
    by_first None found later none = absurd (cc)
    by_first (Some b) found later none = by_cut b (cut_of b.region r) found refl later none

pub whole_accepted : (boxes : List BoxAt) (line : ℕ) (r : List Span) → is_region r ≡ true → packet_of (tree_of (earlier_from line 1 boxes) r) ≡ None
    → are_trees boxes line (r ∷ []) (nodes_of (tree_of (earlier_from line 1 boxes) r)) ≡ true
unfolding tree_of
whole_accepted boxes line r is none =
    let t = tree_within (extent r + 1) (earlier_from line 1 boxes) r in
    ap (are_trees boxes line (r ∷ [])) (sym (append-nil (nodes_of t))) ∙ tree_accepted (extent r + 1) boxes line r [] [] is (omega arith) none

-- all boxes have regions
abbrev pub AreRegions : List BoxAt → Type 0
AreRegions [] = Unit {0}
AreRegions (b ∷ bs) = (is_region b.region ≡ true) × AreRegions bs

regions_filter : (test : BoxAt → Bool) (bs : List BoxAt) → AreRegions bs → AreRegions (filter test bs)
regions_filter test [] are = tt
regions_filter test (b ∷ bs) are = by_test (test b) (regions_filter test bs are.1)
  where
    by_test : (t : Bool) → AreRegions (filter test bs) → AreRegions (if t then b ∷ filter test bs else filter test bs)
    by_test true rest = (are.0, rest)
    by_test false rest = rest

all_accepted : (boxes : List BoxAt) (line : ℕ) (bs : List BoxAt) → AreRegions bs
    → packet_of (flat_map (λ t. t) (map (λ b. tree_of (earlier_from line 1 boxes) b.region) bs)) ≡ None
    → have_trees boxes line bs (map nodes_of (map (λ b. tree_of (earlier_from line 1 boxes) b.region) bs)) ≡ true
all_accepted boxes line [] are none = refl
all_accepted boxes line (b ∷ bs) are none =
    let t = tree_of (earlier_from line 1 boxes) b.region in
    let rest = flat_map (λ t. t) (map (λ b. tree_of (earlier_from line 1 boxes) b.region) bs) in
    let both = or_none (packet_of t) (packet_of rest) (sym (packet_append t rest) ∙ none) in
    and_from _ _ (whole_accepted boxes line b.region are.0 both.0) (all_accepted boxes line bs are.1 both.1)

-- the point of the least numbers is in its region
lows_held : (ws ss : List Span) → are_parts ws ss ≡ true → holds ss (map (λ s. s.low) ss) ≡ true
lows_held [] [] is = refl
lows_held [] (s ∷ ss) is = absurd (cc)
lows_held (w ∷ ws) [] is = absurd (cc)
lows_held (w ∷ ws) (s ∷ ss) is =
    let p = and_parts (is_part w s) (are_parts ws ss) is in and_from _ _ (own w s p.0) (lows_held ws ss p.1)
  where
    own : (w s : Span) → is_part w s ≡ true → has s s.low ≡ true
    own w s is = grind (arith, nat_tests)

least_point : (r : List Span) → length r ≡ 7 → point_of (least_packet r) ≡ map (λ s. s.low) r
least_point [] seven = absurd (omega arith)
least_point (a ∷ []) seven = absurd (omega arith)
least_point (a ∷ b ∷ []) seven = absurd (omega arith)
least_point (a ∷ b ∷ c ∷ []) seven = absurd (omega arith)
least_point (a ∷ b ∷ c ∷ d ∷ []) seven = absurd (omega arith)
least_point (a ∷ b ∷ c ∷ d ∷ e ∷ []) seven = absurd (omega arith)
least_point (a ∷ b ∷ c ∷ d ∷ e ∷ f ∷ []) seven = absurd (omega arith)
least_point (a ∷ b ∷ c ∷ d ∷ e ∷ f ∷ g ∷ []) seven = refl
least_point (a ∷ b ∷ c ∷ d ∷ e ∷ f ∷ g ∷ h ∷ rest) seven = absurd (omega arith)

least_held : (r : List Span) → is_region r ≡ true → holds r (point_of (least_packet r)) ≡ true
least_held r is = rw (least_point r (region_length r is)) (lows_held everything r is)

-- no box has a point of a region that it doesn't meet
none_hold : (es : List Numbered) (r : List Span) (x : List ℕ) → first_meeting es r ≡ None → holds r x ≡ true → list_any (λ e. holds e.region x) es ≡ false
none_hold [] r x none in_r = refl
none_hold (e ∷ es) r x none in_r = by_tests (meets e.region r) (holds e.region x) refl refl (λ later. none_hold es r x later in_r) none
  where
    by_tests : (t u : Bool) → meets e.region r ≡ t → holds e.region x ≡ u → (first_meeting es r ≡ None → list_any (λ e. holds e.region x) es ≡ false)
        → cond t (Some e) (first_meeting es r) ≡ None → (u || list_any (λ e. holds e.region x) es) ≡ false
    by_tests true u meet held later none = absurd (cc)
    by_tests false true meet held later none = absurd (let h = holds_meets e.region r x held in_r in cc)
    by_tests false false meet held later none = later none

or_some : (a b : Option Packet) (p : Packet) → or_later a b ≡ Some p → (a ≡ Some p) ⊎ (b ≡ Some p)
or_some None b p e = inr e
or_some (Some q) b p e = inl e

-- a region has the packet of a leaf of its tree, and no earlier box has it
pub record IsOpen (earlier : List Numbered) (r : List Span) (p : Packet) : Type 0 where
  pub held : holds r (point_of p) ≡ true
  pub free : list_any (λ e. holds e.region (point_of p)) earlier ≡ false

tree_open : (n : ℕ) (earlier : List Numbered) (r : List Span) (p : Packet) → is_region r ≡ true → packet_of (tree_within n earlier r) ≡ Some p → IsOpen earlier r p
tree_open zero earlier r p is found = absurd (cc)
tree_open (suc n) earlier r p is found = by_first (first_meeting earlier r) refl (λ q. tree_open n earlier q p) found
  where
    by_cut : (b : Numbered) (o : Option Cut) → first_meeting earlier r ≡ Some b → cut_of b.region r ≡ o
        → ((q : List Span) → is_region q ≡ true → packet_of (tree_within n earlier q) ≡ Some p → IsOpen earlier q p)
        → packet_of (parted (tree_within n earlier) r b.number o) ≡ Some p → IsOpen earlier r p
    by_cut b None first cut later found = absurd (cc)
    by_cut b (Some c) first cut later found =
        let inside = cut_inside b.region r c is (find_passes (λ e. meets e.region r) earlier b first) cut in
        let i = inside_parts r c inside in
        let low = tree_within n earlier (lower r c) in
        let high = tree_within n earlier (upper r c) in
        ⊎_elim
        (λ (here : packet_of low ≡ Some p).
        let o = later (lower r c) (region_lower r c is inside) here in
        record { held = lower_holds r (point_of p) (c.dim - 1) c.at i o.held; free = o.free })
        (λ (here : packet_of high ≡ Some p).
        let o = later (upper r c) (region_upper r c is inside) here in
        record { held = upper_holds r (point_of p) (c.dim - 1) c.at i o.held; free = o.free })
        (or_some (packet_of low) (packet_of high) p (sym (packet_append low high) ∙ found))

    by_first : (o : Option Numbered) → first_meeting earlier r ≡ o
        → ((q : List Span) → is_region q ≡ true → packet_of (tree_within n earlier q) ≡ Some p → IsOpen earlier q p)
        → packet_of (rooted (tree_within n earlier) r o) ≡ Some p → IsOpen earlier r p
    by_first None first later found =
        let same : least_packet r ≡ p = cc in
        let held = least_held r is in
        subst (λ (p : Packet). IsOpen earlier r p) same (record { held = held; free = none_hold earlier r (point_of (least_packet r)) first held })
    by_first (Some b) first later found = by_cut b (cut_of b.region r) first refl later found

whole_open : (earlier : List Numbered) (r : List Span) (p : Packet) → is_region r ≡ true → packet_of (tree_of earlier r) ≡ Some p → IsOpen earlier r p
unfolding tree_of
whole_open earlier r p is found = tree_open (extent r + 1) earlier r p is found

earlier_any : (line n : ℕ) (bs : List BoxAt) (x : List ℕ) →
    list_any (λ e. holds e.region x) (earlier_from line n bs) ≡ list_any (λ b. nat_lt b.line line && holds b.region x) bs
earlier_any line n [] x = refl
earlier_any line n (b ∷ bs) x = by_line (nat_lt b.line line) (earlier_any line (n + 1) bs x)
  where
    by_line : (t : Bool) → list_any (λ e. holds e.region x) (earlier_from line (n + 1) bs) ≡ list_any (λ b. nat_lt b.line line && holds b.region x) bs
        → list_any (λ e. holds e.region x) (if t then numbered n b.region ∷ earlier_from line (n + 1) bs else earlier_from line (n + 1) bs)
        ≡ ((t && holds b.region x) || list_any (λ b. nat_lt b.line line && holds b.region x) bs)
    by_line true e = ap (λ t. holds b.region x || t) e
    by_line false e = e

all_open : (earlier : List Numbered) (bs : List BoxAt) (p : Packet) → AreRegions bs
    → packet_of (flat_map (λ t. t) (map (λ b. tree_of earlier b.region) bs)) ≡ Some p
    → (list_any (λ b. holds b.region (point_of p)) bs ≡ true) × (list_any (λ e. holds e.region (point_of p)) earlier ≡ false)
all_open earlier [] p are found = absurd (cc)
all_open earlier (b ∷ bs) p are found =
    let t = tree_of earlier b.region in
    let rest = flat_map (λ t. t) (map (λ b. tree_of earlier b.region) bs) in
    ⊎_elim
    (λ (here : packet_of t ≡ Some p).
    let o = whole_open earlier b.region p are.0 here in
    (or_left (holds b.region (point_of p)) (list_any (λ b. holds b.region (point_of p)) bs) o.held, o.free))
    (λ (there : packet_of rest ≡ Some p).
    let o = all_open earlier bs p are.1 there in
    (or_right (holds b.region (point_of p)) (list_any (λ b. holds b.region (point_of p)) bs) o.0, o.1))
    (or_some (packet_of t) (packet_of rest) p (sym (packet_append t rest) ∙ found))

-- what is told of each box by its number
abbrev AreKnown : List BoxAt → Type 0
AreKnown bs = (i : ℕ) → i < length bs → is_region (region_at bs (i + 1)) ≡ true

known_regions : (bs : List BoxAt) → AreKnown bs → AreRegions bs
known_regions [] known = tt
known_regions (b ∷ bs) known = (
  known 0 (omega arith),
  known_regions bs (λ i less. let s : suc i + 1 - 1 ≡ suc i = omega arith in let u : i + 1 - 1 ≡ i = omega arith in
      ap (λ n. is_region (region_if_any (slice_get bs n))) u ∙ ap (λ n. is_region (region_if_any (slice_get (b ∷ bs) n))) (sym s) ∙ known (suc i) (omega arith)),
)

-- after Yes the trees are a certificate
pub finding_accepted : (boxes : List BoxAt) (line limit : ℕ) → AreKnown boxes → IsAccepted boxes line (finding_of boxes line limit)
unfolding finding_of is_certificate
finding_accepted boxes line limit known =
    by_limit (nat_le limit (cuts_of (flat_map (λ t. t) (trees_of boxes line))))
  where
    by_packet : (o : Option Packet) → packet_of (flat_map (λ t. t) (trees_of boxes line)) ≡ o
        → IsAccepted boxes line (found_in (cuts_of (flat_map (λ t. t) (trees_of boxes line))) o (map nodes_of (trees_of boxes line)))
    by_packet None none = all_accepted boxes line (boxes_of_line boxes line) (regions_filter (λ b. b.line == line) boxes (known_regions boxes known)) none
    by_packet (Some p) some = tt

    by_limit : (t : Bool) → IsAccepted boxes line (if t then finding.Unknown limit
        else found_in (cuts_of (flat_map (λ t. t) (trees_of boxes line))) (packet_of (flat_map (λ t. t) (trees_of boxes line))) (map nodes_of (trees_of boxes line)))
    by_limit true = tt
    by_limit false = by_packet (packet_of (flat_map (λ t. t) (trees_of boxes line))) refl

-- after No the packet first matches the line
pub finding_matched : (boxes : List BoxAt) (line limit : ℕ) → AreKnown boxes → IsMatched boxes line (finding_of boxes line limit)
unfolding finding_of
finding_matched boxes line limit known =
    by_limit (nat_le limit (cuts_of (flat_map (λ t. t) (trees_of boxes line))))
  where
    by_packet : (o : Option Packet) → packet_of (flat_map (λ t. t) (trees_of boxes line)) ≡ o
        → IsMatched boxes line (found_in (cuts_of (flat_map (λ t. t) (trees_of boxes line))) o (map nodes_of (trees_of boxes line)))
    by_packet None none = tt
    by_packet (Some p) some =
        let o = all_open (earlier_from line 1 boxes) (boxes_of_line boxes line) p (regions_filter (λ b. b.line == line) boxes (known_regions boxes known)) some in
        let there : holds_there boxes line (point_of p) ≡ true = any_filter (λ b. b.line == line) (λ b. holds b.region (point_of p)) boxes ∙ o.0 in
        let none : holds_earlier boxes line (point_of p) ≡ false = sym (earlier_any line 1 boxes (point_of p)) ∙ o.1 in
        rw (there, none) refl

    by_limit : (t : Bool) → IsMatched boxes line (if t then finding.Unknown limit
        else found_in (cuts_of (flat_map (λ t. t) (trees_of boxes line))) (packet_of (flat_map (λ t. t) (trees_of boxes line))) (map nodes_of (trees_of boxes line)))
    by_limit true = tt
    by_limit false = by_packet (packet_of (flat_map (λ t. t) (trees_of boxes line))) refl
