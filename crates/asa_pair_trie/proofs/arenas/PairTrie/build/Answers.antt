use Rattle.std.proofs.Common.{◌≡◌, ℕ, List, [], length, sym, ap, subst, arith}
use Rattle.std.specs.List.Sorted.{IsPermutation}
use Rattle.asa_pair_trie.specs.declared.entries.Entry.{Entry}
use Rattle.asa_pair_trie.specs.declared.arenas.OuterNode.{OuterNode}
use Rattle.asa_pair_trie.specs.declared.arenas.InnerNode.{InnerNode}
use Rattle.asa_pair_trie.specs.declared.arenas.Slot.{Slot}
use Rattle.asa_pair_trie.specs.Lookup.{IsRising, entries_in}
use Rattle.asa_pair_trie.specs.Growth.{OuterGrown}
use Rattle.asa_pair_trie.proofs.GrowLaws.{built_is}
use Rattle.asa_pair_trie.proofs.arenas.PairTrie.build.Goals as goal

-- the nodes and slots have grown from none
from_none : (s s0 s1 : List Slot) (i0 i1 : List InnerNode) (o0 o1 : List OuterNode) (at : ℕ) (es : List Entry) → s0 ≡ [] → i0 ≡ [] → o0 ≡ [] → s ≡ s1
    → OuterGrown s0 s1 i0 i1 o0 o1 at 33 es → OuterGrown [] s [] i1 [] o1 at 33 es
from_none s s0 s1 i0 i1 o0 o1 at es es0 ei0 eo0 same g =
    subst (λ x. OuterGrown [] x [] i1 [] o1 at 33 es) (sym same)
    (subst (λ x. OuterGrown x s1 [] i1 [] o1 at 33 es) es0 (subst (λ x. OuterGrown s0 s1 x i1 [] o1 at 33 es) ei0 (subst (λ x. OuterGrown s0 s1 i0 i1 x o1 at 33 es) eo0 g)))

pub invariant_of-result : goal.invariant_of-result
invariant_of-result c =
    let g = from_none c.into_slots.result.items c.new-chains.result c.grow_outer.new.chains c.new-inner.result.items c.grow_outer.new.inner.items c.new-outer.result.items c.grow_outer.new.nodes.items
    c.in_ok-_root._root c.in_ok-entries.entries.items c.new-chains.ensures c.new-inner.ensures.items c.new-outer.ensures.items c.into_slots.ensures.slots c.in_ok-_root.ensures in
    built_is c.into_slots.result.items c.grow_outer.new.inner.items c.grow_outer.new.nodes.items c.in_ok-_root._root c.in_ok-entries.entries.items g
    (omega (arith, ap length c.in_ok-entries.ensures.same, c.requires)) (subst (λ xs. IsRising xs) (sym c.into_slots.ensures.slots) c.into_slots.ensures.rising)

pub returns : goal.returns
returns c =
    let g = from_none c.into_slots.result.items c.new-chains.result c.grow_outer.new.chains c.new-inner.result.items c.grow_outer.new.inner.items c.new-outer.result.items c.grow_outer.new.nodes.items
    c.in_ok-_root._root c.in_ok-entries.entries.items c.new-chains.ensures c.new-inner.ensures.items c.new-outer.ensures.items c.into_slots.ensures.slots c.in_ok-_root.ensures in
    subst (λ es. IsPermutation es (entries_in c.into_slots.result.items)) c.in_ok-entries.ensures.same g.added
