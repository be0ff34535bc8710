-- How inner and outer nodes grow, for every later list of what lies below them and for every packet.
use Rattle.std.proofs.Common.{◌≡◌, ℕ, ◌+◌, ◌-◌, ◌*◌, ◌/◌, ◌^◌, ◌≤◌, ◌<◌, false, List, [], ◌∷◌, ◌++◌, length, refl, sym, ap, ◌∙◌, arith, le_refl}
use Rattle.std.specs.Prelude.{filter}
use Rattle.std.specs.List.{All}
use Rattle.asa_base.specs.Networks.{Network}
use Rattle.asa_base.specs.declared.flow.Packet.{Packet}
use Rattle.asa_trie.specs.Bits.{height, home_of, is_here, is_low, is_high, one_half, IsWithin}
use Rattle.asa_trie.specs.Tries.{Later, IsNested, total}
use Rattle.asa_trie.proofs.BlockLaws.{parts_length}
use Rattle.asa_trie.proofs.TrieLaws.{later_refl, later_next, grown_none, grown_passed, grown_node, nested_none, root_finds}
use Rattle.asa_pair_trie.specs.declared.entries.Entry.{Entry}
use Rattle.asa_pair_trie.specs.declared.entries.Side.TheVariants.{Source, Dest}
use Rattle.asa_pair_trie.specs.declared.arenas.OuterNode.{OuterNode}
use Rattle.asa_pair_trie.specs.declared.arenas.InnerNode.{InnerNode}
use Rattle.asa_pair_trie.specs.declared.arenas.Slot.{Slot}
use Rattle.asa_pair_trie.specs.Lookup.{seeing, seen, inner_links, inner_value, outer_links, outer_value, found, entries_in, IsRising, IsPairTrie}
use Rattle.asa_pair_trie.specs.Growth.{prefix_by, worth, ChainGrown, InnerGrown, OuterGrown}
use Rattle.asa_pair_trie.proofs.RankLaws.{seeing_laws, total_is, first_permutation, covering_permutation}
use Rattle.asa_pair_trie.proofs.HeldLaws.{added_none, added_count, added_parts}

abbrev here_of : (Entry → Network) → ℕ → List Entry → List Entry
here_of pre level es = filter (λ e. is_here level (pre e)) es

abbrev low_of : (Entry → Network) → ℕ → List Entry → List Entry
low_of pre level es = filter (λ e. is_low level (pre e)) es

abbrev high_of : (Entry → Network) → ℕ → List Entry → List Entry
high_of pre level es = filter (λ e. is_high level (pre e)) es

-- a packet, to read what is true for every one
any_packet : Packet
any_packet = record { ifc = 0; proto = 0; src = record { 0 = 0 }; sport = 0; dst = record { 0 = 0 }; dport = 0; flags = 0; itype = 0; icode = 0 }

pub inner_none : (slots : List Slot) (nodes : List InnerNode) (levels : ℕ) (es : List Entry) → length es ≡ 0 → InnerGrown slots slots nodes nodes 0 levels es
inner_none slots nodes levels es none = record {
  later = later_refl slots;
  added = added_none slots es none;
  grown = λ s l p. grown_none seeing inner_links (inner_value s p) (prefix_by Dest) (seen p) (home_of (prefix_by Dest) es) nodes levels es none;
}

pub inner_passed : (s0 s1 : List Slot) (old new : List InnerNode) (at levels level : ℕ) (es : List Entry) → levels ≡ level + 1
    → InnerGrown s0 s1 old new at level es → InnerGrown s0 s1 old new at levels es
inner_passed s0 s1 old new at levels level es e g = record {
  later = g.later;
  added = g.added;
  grown = λ s l p. grown_passed seeing inner_links (inner_value s p) (prefix_by Dest) (seen p) (home_of (prefix_by Dest) es) old new at levels level es e (g.grown s l p);
}

-- what the inner nodes are at most, and that they stay nested
pub inner_few : (s0 s1 : List Slot) (old new : List InnerNode) (at levels : ℕ) (es : List Entry) → InnerGrown s0 s1 old new at levels es → length new ≤ length old + (2 * length es - 1)
inner_few s0 s1 old new at levels es g = (g.grown s1 (later_refl s1) any_packet).few

pub inner_nested : (s0 s1 : List Slot) (old new : List InnerNode) (at levels : ℕ) (es : List Entry) → InnerGrown s0 s1 old new at levels es → IsNested inner_links old → IsNested inner_links new
inner_nested s0 s1 old new at levels es g = (g.grown s1 (later_refl s1) any_packet).nested

pub inner_later : (s0 s1 : List Slot) (old new : List InnerNode) (at levels : ℕ) (es : List Entry) → InnerGrown s0 s1 old new at levels es → Later old new
inner_later s0 s1 old new at levels es g = (g.grown s1 (later_refl s1) any_packet).later

pub inner_node : (levels level : ℕ) (es : List Entry) (s0 s1 s2 s3 : List Slot) (old mid last new : List InnerNode) (left right slot at : ℕ) (prefix : Network)
    → levels ≡ level + 1 → All (λ e. IsWithin levels (home_of (prefix_by Dest) es) (prefix_by Dest e)) es → 0 < length es
    → one_half (prefix_by Dest) level es ≡ false
    → InnerGrown s0 s1 old mid left level (low_of (prefix_by Dest) level es)
    → InnerGrown s1 s2 mid last right level (high_of (prefix_by Dest) level es)
    → ChainGrown s2 s3 slot (here_of (prefix_by Dest) level es)
    → new ≡ last ++ record { prefix = prefix; left = left; right = right; slot = slot } ∷ [] → at ≡ length new
    → height prefix ≡ level → prefix.addr.0 / 2 ^ level ≡ home_of (prefix_by Dest) es / 2 ^ level
    → InnerGrown s0 s3 old new at levels es
inner_node levels level es s0 s1 s2 s3 old mid last new left right slot at prefix e within some mixed low high chained pushed place hp ep = record {
  later = later_next s0 s1 s3 low.later (later_next s1 s2 s3 high.later chained.later);
  added = added_parts (prefix_by Dest) level es s0 s1 s2 s3 low.added high.added chained.added;
  grown = λ s l p. grown_node seeing seeing_laws inner_links (inner_value s p) (prefix_by Dest) (seen p) levels level es old mid last new left right at
      (record { prefix = prefix; left = left; right = right; slot = slot })
      e within some mixed
      (low.grown s (later_next s1 s2 s high.later (later_next s2 s3 s chained.later l)) p)
      (high.grown s (later_next s2 s3 s chained.later l) p)
      pushed place hp ep refl refl (chained.chained.sum s l p slot (le_refl slot));
}

pub outer_none : (slots : List Slot) (inner : List InnerNode) (nodes : List OuterNode) (levels : ℕ) (es : List Entry) → length es ≡ 0 → OuterGrown slots slots inner inner nodes nodes 0 levels es
outer_none slots inner nodes levels es none = record {
  later_slots = later_refl slots;
  added = added_none slots es none;
  later_inner = later_refl inner;
  few_inner = omega arith;
  nested_inner = λ h. h;
  grown = λ s ls i li p. grown_none seeing outer_links (outer_value s i p) (prefix_by Source) (worth p) (home_of (prefix_by Source) es) nodes levels es none;
}

pub outer_passed : (s0 s1 : List Slot) (i0 i1 : List InnerNode) (old new : List OuterNode) (at levels level : ℕ) (es : List Entry) → levels ≡ level + 1
    → OuterGrown s0 s1 i0 i1 old new at level es → OuterGrown s0 s1 i0 i1 old new at levels es
outer_passed s0 s1 i0 i1 old new at levels level es e g = record {
  later_slots = g.later_slots;
  added = g.added;
  later_inner = g.later_inner;
  few_inner = g.few_inner;
  nested_inner = g.nested_inner;
  grown = λ s ls i li p. grown_passed seeing outer_links (outer_value s i p) (prefix_by Source) (worth p) (home_of (prefix_by Source) es) old new at levels level es e (g.grown s ls i li p);
}

-- what the outer nodes are at most
pub outer_few : (s0 s1 : List Slot) (i0 i1 : List InnerNode) (old new : List OuterNode) (at levels : ℕ) (es : List Entry) → OuterGrown s0 s1 i0 i1 old new at levels es → length new ≤ length old + (2 * length es - 1)
outer_few s0 s1 i0 i1 old new at levels es g = (g.grown s1 (later_refl s1) i1 (later_refl i1) any_packet).few

pub outer_node : (levels level : ℕ) (es : List Entry) (s0 s1 s2 s3 : List Slot) (i0 i1 i2 i3 : List InnerNode) (old mid last new : List OuterNode) (left right root at : ℕ) (prefix : Network)
    → levels ≡ level + 1 → All (λ e. IsWithin levels (home_of (prefix_by Source) es) (prefix_by Source e)) es → 0 < length es
    → one_half (prefix_by Source) level es ≡ false
    → OuterGrown s0 s1 i0 i1 old mid left level (low_of (prefix_by Source) level es)
    → OuterGrown s1 s2 i1 i2 mid last right level (high_of (prefix_by Source) level es)
    → InnerGrown s2 s3 i2 i3 root 33 (here_of (prefix_by Source) level es)
    → new ≡ last ++ record { prefix = prefix; left = left; right = right; inner = root } ∷ [] → at ≡ length new
    → height prefix ≡ level → prefix.addr.0 / 2 ^ level ≡ home_of (prefix_by Source) es / 2 ^ level
    → OuterGrown s0 s3 i0 i3 old new at levels es
outer_node levels level es s0 s1 s2 s3 i0 i1 i2 i3 old mid last new left right root at prefix e within some mixed low high here pushed place hp ep = record {
  later_slots = later_next s0 s1 s3 low.later_slots (later_next s1 s2 s3 high.later_slots here.later);
  added = added_parts (prefix_by Source) level es s0 s1 s2 s3 low.added high.added here.added;
  later_inner = later_next i0 i1 i3 low.later_inner (later_next i1 i2 i3 high.later_inner stays);
  few_inner = omega (arith, low.few_inner, high.few_inner, inner_few s2 s3 i2 i3 root 33 (here_of (prefix_by Source) level es) here, parts_length (prefix_by Source) level es);
  nested_inner = λ h. inner_nested s2 s3 i2 i3 root 33 (here_of (prefix_by Source) level es) here (high.nested_inner (low.nested_inner h));
  grown = λ s ls i li p. grown_node seeing seeing_laws outer_links (outer_value s i p) (prefix_by Source) (worth p) levels level es old mid last new left right at
      (record { prefix = prefix; left = left; right = right; inner = root })
      e within some mixed
      (low.grown s (later_next s1 s2 s high.later_slots (later_next s2 s3 s here.later ls)) i (later_next i1 i2 i high.later_inner (later_next i2 i3 i stays li)) p)
      (high.grown s (later_next s2 s3 s here.later ls) i (later_next i2 i3 i stays li) p)
      pushed place hp ep refl refl ((here.grown s ls p).holds.found i li 33 p.dst.0 (le_refl 33));
}
  where
    stays : Later i2 i3
    stays = inner_later s2 s3 i2 i3 root 33 (here_of (prefix_by Source) level es) here

-- the whole: from no nodes, over all addresses
built_finds : (slots : List Slot) (inner : List InnerNode) (outer : List OuterNode) (at : ℕ) (es : List Entry) → OuterGrown [] slots [] inner [] outer at 33 es
    → (p : Packet) → found (record { outer = outer; inner = inner; slots = slots }) p ≡ total seeing (prefix_by Source) (worth p) es p.src.0
built_finds slots inner outer at es g p =
    root_finds seeing outer_links (outer_value slots inner p) (prefix_by Source) (worth p) (home_of (prefix_by Source) es) outer at es
    (g.grown slots (later_refl slots) inner (later_refl inner) p) p.src.0

pub built_is : (slots : List Slot) (inner : List InnerNode) (outer : List OuterNode) (at : ℕ) (es : List Entry) → OuterGrown [] slots [] inner [] outer at 33 es
    → length es ≤ 262144 → IsRising slots → IsPairTrie (record { outer = outer; inner = inner; slots = slots })
built_is slots inner outer at es g few rising = record {
  outer_trie = record {
    few = omega (arith, outer_few [] slots [] inner [] outer at 33 es g);
    nested = (g.grown slots (later_refl slots) inner (later_refl inner) any_packet).nested (nested_none outer_links);
  };
  inner_trie = record { few = omega (arith, g.few_inner); nested = g.nested_inner (nested_none inner_links) };
  few_slots = omega (arith, added_count [] slots es g.added);
  rising = rising;
  decides = λ p. ap (λ x. x.rank) (built_finds slots inner outer at es g p) ∙ (total_is p es).0 ∙ sym (first_permutation es (entries_in slots) g.added p);
  reads = λ p. ap (λ x. x.read) (built_finds slots inner outer at es g p) ∙ (total_is p es).1 ∙ sym (covering_permutation es (entries_in slots) g.added p);
}
