use Rattle.std.proofs.Common.{rules, ◌≡◌, ◌-◌, ◌^◌, ◌/◌, ◌<◌, true, false, length, filter, sym, ap, ◌∙◌, arith, subst}
use Rattle.std.specs.List.{All}
use Rattle.std.proofs.lemmas.Result.{IfOk-weaker}
use Rattle.std.proofs.lemmas.List.Elements.{All-filter}
use Rattle.asa_trie.specs.Bits.{home_of, IsWithin, is_here, is_low, is_high, one_half}
use Rattle.asa_trie.proofs.BlockLaws.{half_passed, lows_within, highs_within, parts_length, some_level, whole_block}
use Rattle.asa_pair_trie.specs.declared.entries.Side.TheVariants.{Source, Dest}
use Rattle.asa_pair_trie.specs.Growth.{prefix_by, InnerGrown, OuterGrown}
use Rattle.asa_pair_trie.proofs.HeldLaws.{added_count}
use Rattle.asa_pair_trie.proofs.GrowLaws.{outer_none, outer_passed, outer_few, outer_node}
use Rattle.asa_pair_trie.proofs.growth.+grow_outer.Goals as goal

pub returns-then-is_empty : goal.returns-then-is_empty
returns-then-is_empty t c =
    let none : length c.args.entries.items ≡ 0 = search rules in
    outer_none c.args.chains.now c.args.inner.now.items c.args.nodes.now.items c.args.levels c.args.entries.items none

pub overflow_sub-level : goal.overflow_sub-level
overflow_sub-level t c =
    let some : 0 < length c.args.entries.items = search rules in
    omega (arith, some_level (prefix_by Source) c.args.levels c.args.entries.items some c.requires.within)

pub grow_outer-requires : goal.grow_outer-requires
grow_outer-requires t c =
    let some : 0 < length c.args.entries.items = search rules in
    let e = some_level (prefix_by Source) c.args.levels c.args.entries.items some c.requires.within in
    let half : one_half (prefix_by Source) (c.args.levels - 1) c.args.entries.items ≡ true =
    ap (one_half (prefix_by Source) (c.args.levels - 1)) (sym c.deref.ensures.value) ∙ sym c.one_half.ensures ∙ c.if-one_half.true in
    (omega arith, (omega arith, (half_passed (prefix_by Source) c.args.levels (c.args.levels - 1) c.args.entries.items e half c.requires.within, (c.requires.dests, (c.requires.room, (c.requires.inners, c.requires.slots))))))

pub returns-then-one_half : goal.returns-then-one_half
returns-then-one_half t c =
    let some : 0 < length c.args.entries.items = search rules in
    let e = some_level (prefix_by Source) c.args.levels c.args.entries.items some c.requires.within in
    IfOk-weaker c.grow_outer.result (λ at. OuterGrown c.args.chains.now c.grow_outer.new.chains c.args.inner.now.items c.grow_outer.new.inner.items c.args.nodes.now.items c.grow_outer.new.nodes.items at (c.args.levels - 1) c.args.entries.items) (λ at. OuterGrown c.args.chains.now c.grow_outer.new.chains c.args.inner.now.items c.grow_outer.new.inner.items c.args.nodes.now.items c.grow_outer.new.nodes.items at c.args.levels c.args.entries.items)
    (λ at g. outer_passed c.args.chains.now c.grow_outer.new.chains c.args.inner.now.items c.grow_outer.new.inner.items c.args.nodes.now.items c.grow_outer.new.nodes.items at c.args.levels (c.args.levels - 1) c.args.entries.items e g) c.grow_outer.ensures

pub grow_outer-requires-2 : goal.grow_outer-requires-2
grow_outer-requires-2 t c =
    let some : 0 < length c.args.entries.items = search rules in
    let e = some_level (prefix_by Source) c.args.levels c.args.entries.items some c.requires.within in
    let el : c.in_ok-low.low.items ≡ filter (λ x. is_low (c.args.levels - 1) (prefix_by Source x)) c.args.entries.items =
    c.in_ok-low.ensures ∙ ap (filter (λ x. is_low (c.args.levels - 1) (prefix_by Source x))) c.deref-4.ensures.value in
    let few = parts_length (prefix_by Source) (c.args.levels - 1) c.args.entries.items in (
      omega arith,
      (
        omega arith,
        (
          subst (λ ys. All (λ x. IsWithin (c.args.levels - 1) (home_of (prefix_by Source) ys) (prefix_by Source x)) ys) (sym el) (lows_within (prefix_by Source) c.args.levels (c.args.levels - 1) c.args.entries.items e c.requires.within),
          (subst (λ ys. All (λ x. (prefix_by Dest x).addr.0 < 2 ^ 32) ys) (sym el) (All-filter (λ x. is_low (c.args.levels - 1) (prefix_by Source x)) (λ x. (prefix_by Dest x).addr.0 < 2 ^ 32) c.args.entries.items c.requires.dests), (omega (arith, few, ap length el), (omega (arith, few, ap length el), omega (arith, few, ap length el)))),
        ),
      ),
    )

pub grow_outer-requires-3 : goal.grow_outer-requires-3
grow_outer-requires-3 t c =
    let some : 0 < length c.args.entries.items = search rules in
    let e = some_level (prefix_by Source) c.args.levels c.args.entries.items some c.requires.within in
    let el : c.in_ok-low.low.items ≡ filter (λ x. is_low (c.args.levels - 1) (prefix_by Source x)) c.args.entries.items =
    c.in_ok-low.ensures ∙ ap (filter (λ x. is_low (c.args.levels - 1) (prefix_by Source x))) c.deref-4.ensures.value in
    let eh : c.in_ok-high.high.items ≡ filter (λ x. is_high (c.args.levels - 1) (prefix_by Source x)) c.args.entries.items =
    c.in_ok-high.ensures ∙ ap (filter (λ x. is_high (c.args.levels - 1) (prefix_by Source x))) c.deref-5.ensures.value in
    let few = parts_length (prefix_by Source) (c.args.levels - 1) c.args.entries.items in
    let left : OuterGrown c.args.chains.now c.grow_outer-2.new.chains c.args.inner.now.items c.grow_outer-2.new.inner.items c.args.nodes.now.items c.grow_outer-2.new.nodes.items c.in_ok-left.left (c.args.levels - 1) c.in_ok-low.low.items = c.in_ok-left.ensures in (
      omega arith,
      (
        omega arith,
        (
          subst (λ ys. All (λ x. IsWithin (c.args.levels - 1) (home_of (prefix_by Source) ys) (prefix_by Source x)) ys) (sym eh) (highs_within (prefix_by Source) c.args.levels (c.args.levels - 1) c.args.entries.items e c.requires.within),
          (subst (λ ys. All (λ x. (prefix_by Dest x).addr.0 < 2 ^ 32) ys) (sym eh) (All-filter (λ x. is_high (c.args.levels - 1) (prefix_by Source x)) (λ x. (prefix_by Dest x).addr.0 < 2 ^ 32) c.args.entries.items c.requires.dests), (omega (arith, few, ap length el, ap length eh, added_count c.args.chains.now c.grow_outer-2.new.chains c.in_ok-low.low.items left.added, left.few_inner, outer_few c.args.chains.now c.grow_outer-2.new.chains c.args.inner.now.items c.grow_outer-2.new.inner.items c.args.nodes.now.items c.grow_outer-2.new.nodes.items c.in_ok-left.left (c.args.levels - 1) c.in_ok-low.low.items left), (omega (arith, few, ap length el, ap length eh, added_count c.args.chains.now c.grow_outer-2.new.chains c.in_ok-low.low.items left.added, left.few_inner, outer_few c.args.chains.now c.grow_outer-2.new.chains c.args.inner.now.items c.grow_outer-2.new.inner.items c.args.nodes.now.items c.grow_outer-2.new.nodes.items c.in_ok-left.left (c.args.levels - 1) c.in_ok-low.low.items left), omega (arith, few, ap length el, ap length eh, added_count c.args.chains.now c.grow_outer-2.new.chains c.in_ok-low.low.items left.added, left.few_inner, outer_few c.args.chains.now c.grow_outer-2.new.chains c.args.inner.now.items c.grow_outer-2.new.inner.items c.args.nodes.now.items c.grow_outer-2.new.nodes.items c.in_ok-left.left (c.args.levels - 1) c.in_ok-low.low.items left)))),
        ),
      ),
    )

pub grow_inner-requires-clause-within : goal.grow_inner-requires-clause-within
grow_inner-requires-clause-within t c =
    let en : c.in_ok-here.here.items ≡ filter (λ x. is_here (c.args.levels - 1) (prefix_by Source x)) c.args.entries.items =
    c.in_ok-here.ensures ∙ ap (filter (λ x. is_here (c.args.levels - 1) (prefix_by Source x))) c.deref-3.ensures.value in
    whole_block (prefix_by Dest) c.in_ok-here.here.items (subst (λ ys. All (λ x. (prefix_by Dest x).addr.0 < 2 ^ 32) ys) (sym en) (All-filter (λ x. is_here (c.args.levels - 1) (prefix_by Source x)) (λ x. (prefix_by Dest x).addr.0 < 2 ^ 32) c.args.entries.items c.requires.dests))

pub grow_inner-requires-clause-room : goal.grow_inner-requires-clause-room
grow_inner-requires-clause-room t c =
    let en : c.in_ok-here.here.items ≡ filter (λ x. is_here (c.args.levels - 1) (prefix_by Source x)) c.args.entries.items =
    c.in_ok-here.ensures ∙ ap (filter (λ x. is_here (c.args.levels - 1) (prefix_by Source x))) c.deref-3.ensures.value in
    let el : c.in_ok-low.low.items ≡ filter (λ x. is_low (c.args.levels - 1) (prefix_by Source x)) c.args.entries.items =
    c.in_ok-low.ensures ∙ ap (filter (λ x. is_low (c.args.levels - 1) (prefix_by Source x))) c.deref-4.ensures.value in
    let eh : c.in_ok-high.high.items ≡ filter (λ x. is_high (c.args.levels - 1) (prefix_by Source x)) c.args.entries.items =
    c.in_ok-high.ensures ∙ ap (filter (λ x. is_high (c.args.levels - 1) (prefix_by Source x))) c.deref-5.ensures.value in
    let few = parts_length (prefix_by Source) (c.args.levels - 1) c.args.entries.items in
    let left : OuterGrown c.args.chains.now c.grow_outer-2.new.chains c.args.inner.now.items c.grow_outer-2.new.inner.items c.args.nodes.now.items c.grow_outer-2.new.nodes.items c.in_ok-left.left (c.args.levels - 1) c.in_ok-low.low.items = c.in_ok-left.ensures in
    let right : OuterGrown c.grow_outer-2.new.chains c.grow_outer-3.new.chains c.grow_outer-2.new.inner.items c.grow_outer-3.new.inner.items c.grow_outer-2.new.nodes.items c.grow_outer-3.new.nodes.items c.in_ok-right.right (c.args.levels - 1) c.in_ok-high.high.items = c.in_ok-right.ensures in
    omega (arith, few, ap length en, ap length el, ap length eh, left.few_inner, right.few_inner)

pub grow_inner-requires-clause-slots : goal.grow_inner-requires-clause-slots
grow_inner-requires-clause-slots t c =
    let en : c.in_ok-here.here.items ≡ filter (λ x. is_here (c.args.levels - 1) (prefix_by Source x)) c.args.entries.items =
    c.in_ok-here.ensures ∙ ap (filter (λ x. is_here (c.args.levels - 1) (prefix_by Source x))) c.deref-3.ensures.value in
    let el : c.in_ok-low.low.items ≡ filter (λ x. is_low (c.args.levels - 1) (prefix_by Source x)) c.args.entries.items =
    c.in_ok-low.ensures ∙ ap (filter (λ x. is_low (c.args.levels - 1) (prefix_by Source x))) c.deref-4.ensures.value in
    let eh : c.in_ok-high.high.items ≡ filter (λ x. is_high (c.args.levels - 1) (prefix_by Source x)) c.args.entries.items =
    c.in_ok-high.ensures ∙ ap (filter (λ x. is_high (c.args.levels - 1) (prefix_by Source x))) c.deref-5.ensures.value in
    let few = parts_length (prefix_by Source) (c.args.levels - 1) c.args.entries.items in
    let left : OuterGrown c.args.chains.now c.grow_outer-2.new.chains c.args.inner.now.items c.grow_outer-2.new.inner.items c.args.nodes.now.items c.grow_outer-2.new.nodes.items c.in_ok-left.left (c.args.levels - 1) c.in_ok-low.low.items = c.in_ok-left.ensures in
    let right : OuterGrown c.grow_outer-2.new.chains c.grow_outer-3.new.chains c.grow_outer-2.new.inner.items c.grow_outer-3.new.inner.items c.grow_outer-2.new.nodes.items c.grow_outer-3.new.nodes.items c.in_ok-right.right (c.args.levels - 1) c.in_ok-high.high.items = c.in_ok-right.ensures in
    omega (arith, few, ap length en, ap length el, ap length eh, added_count c.args.chains.now c.grow_outer-2.new.chains c.in_ok-low.low.items left.added, added_count c.grow_outer-2.new.chains c.grow_outer-3.new.chains c.in_ok-high.high.items right.added)

pub add_outer-requires : goal.add_outer-requires
add_outer-requires t c =
    let some : 0 < length c.args.entries.items = search rules in
    let el : c.in_ok-low.low.items ≡ filter (λ x. is_low (c.args.levels - 1) (prefix_by Source x)) c.args.entries.items =
    c.in_ok-low.ensures ∙ ap (filter (λ x. is_low (c.args.levels - 1) (prefix_by Source x))) c.deref-4.ensures.value in
    let eh : c.in_ok-high.high.items ≡ filter (λ x. is_high (c.args.levels - 1) (prefix_by Source x)) c.args.entries.items =
    c.in_ok-high.ensures ∙ ap (filter (λ x. is_high (c.args.levels - 1) (prefix_by Source x))) c.deref-5.ensures.value in
    let few = parts_length (prefix_by Source) (c.args.levels - 1) c.args.entries.items in
    let left : OuterGrown c.args.chains.now c.grow_outer-2.new.chains c.args.inner.now.items c.grow_outer-2.new.inner.items c.args.nodes.now.items c.grow_outer-2.new.nodes.items c.in_ok-left.left (c.args.levels - 1) c.in_ok-low.low.items = c.in_ok-left.ensures in
    let right : OuterGrown c.grow_outer-2.new.chains c.grow_outer-3.new.chains c.grow_outer-2.new.inner.items c.grow_outer-3.new.inner.items c.grow_outer-2.new.nodes.items c.grow_outer-3.new.nodes.items c.in_ok-right.right (c.args.levels - 1) c.in_ok-high.high.items = c.in_ok-right.ensures in
    omega (arith, few, ap length el, ap length eh, outer_few c.args.chains.now c.grow_outer-2.new.chains c.args.inner.now.items c.grow_outer-2.new.inner.items c.args.nodes.now.items c.grow_outer-2.new.nodes.items c.in_ok-left.left (c.args.levels - 1) c.in_ok-low.low.items left, outer_few c.grow_outer-2.new.chains c.grow_outer-3.new.chains c.grow_outer-2.new.inner.items c.grow_outer-3.new.inner.items c.grow_outer-2.new.nodes.items c.grow_outer-3.new.nodes.items c.in_ok-right.right (c.args.levels - 1) c.in_ok-high.high.items right)

pub returns : goal.returns
returns t c =
    let some : 0 < length c.args.entries.items = search rules in
    let e = some_level (prefix_by Source) c.args.levels c.args.entries.items some c.requires.within in
    let mixed : one_half (prefix_by Source) (c.args.levels - 1) c.args.entries.items ≡ false =
    ap (one_half (prefix_by Source) (c.args.levels - 1)) (sym c.deref.ensures.value) ∙ sym c.one_half.ensures ∙ c.if-one_half.false in
    let en : c.in_ok-here.here.items ≡ filter (λ x. is_here (c.args.levels - 1) (prefix_by Source x)) c.args.entries.items =
    c.in_ok-here.ensures ∙ ap (filter (λ x. is_here (c.args.levels - 1) (prefix_by Source x))) c.deref-3.ensures.value in
    let el : c.in_ok-low.low.items ≡ filter (λ x. is_low (c.args.levels - 1) (prefix_by Source x)) c.args.entries.items =
    c.in_ok-low.ensures ∙ ap (filter (λ x. is_low (c.args.levels - 1) (prefix_by Source x))) c.deref-4.ensures.value in
    let eh : c.in_ok-high.high.items ≡ filter (λ x. is_high (c.args.levels - 1) (prefix_by Source x)) c.args.entries.items =
    c.in_ok-high.ensures ∙ ap (filter (λ x. is_high (c.args.levels - 1) (prefix_by Source x))) c.deref-5.ensures.value in
    let ehome : c.home.result.0 ≡ home_of (prefix_by Source) c.args.entries.items = c.home.ensures ∙ ap (home_of (prefix_by Source)) c.deref-2.ensures.value in
    outer_node c.args.levels (c.args.levels - 1) c.args.entries.items c.args.chains.now c.grow_outer-2.new.chains c.grow_outer-3.new.chains c.grow_inner.new.chains c.args.inner.now.items c.grow_outer-2.new.inner.items c.grow_outer-3.new.inner.items c.grow_inner.new.nodes.items c.args.nodes.now.items c.grow_outer-2.new.nodes.items c.grow_outer-3.new.nodes.items c.add_outer.new.nodes.items
    c.in_ok-left.left c.in_ok-right.right c.in_ok-root.root c.in_ok-at.at c.over-prefix.result
    e c.requires.within some mixed
    (subst (λ ys. OuterGrown c.args.chains.now c.grow_outer-2.new.chains c.args.inner.now.items c.grow_outer-2.new.inner.items c.args.nodes.now.items c.grow_outer-2.new.nodes.items c.in_ok-left.left (c.args.levels - 1) ys) el c.in_ok-left.ensures)
    (subst (λ ys. OuterGrown c.grow_outer-2.new.chains c.grow_outer-3.new.chains c.grow_outer-2.new.inner.items c.grow_outer-3.new.inner.items c.grow_outer-2.new.nodes.items c.grow_outer-3.new.nodes.items c.in_ok-right.right (c.args.levels - 1) ys) eh c.in_ok-right.ensures)
    (subst (λ ys. InnerGrown c.grow_outer-3.new.chains c.grow_inner.new.chains c.grow_outer-3.new.inner.items c.grow_inner.new.nodes.items c.in_ok-root.root 33 ys) en c.in_ok-root.ensures)
    c.in_ok-at.ensures.added c.in_ok-at.ensures.link c.over-prefix.ensures.level (c.over-prefix.ensures.block ∙ ap (λ x. x / 2 ^ (c.args.levels - 1)) ehome)
