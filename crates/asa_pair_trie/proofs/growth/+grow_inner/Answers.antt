use Rattle.std.proofs.Common.{rules, ◌≡◌, ◌-◌, ◌^◌, ◌/◌, ◌<◌, true, false, length, filter, sym, ap, ◌∙◌, arith, subst}
use Rattle.std.specs.List.{All}
use Rattle.std.proofs.lemmas.Result.{IfOk-weaker}
use Rattle.asa_trie.specs.Bits.{home_of, IsWithin, is_here, is_low, is_high, one_half}
use Rattle.asa_trie.proofs.BlockLaws.{half_passed, lows_within, highs_within, parts_length, some_level}
use Rattle.asa_pair_trie.specs.declared.entries.Side.TheVariants.{Dest}
use Rattle.asa_pair_trie.specs.Growth.{prefix_by, ChainGrown, InnerGrown}
use Rattle.asa_pair_trie.proofs.HeldLaws.{added_count}
use Rattle.asa_pair_trie.proofs.GrowLaws.{inner_none, inner_passed, inner_few, inner_node}
use Rattle.asa_pair_trie.proofs.growth.+grow_inner.Goals as goal

pub returns-then-is_empty : goal.returns-then-is_empty
returns-then-is_empty t c =
    let none : length c.args.entries.items ≡ 0 = search rules in
    inner_none c.args.chains.now c.args.nodes.now.items c.args.levels c.args.entries.items none

pub overflow_sub-level : goal.overflow_sub-level
overflow_sub-level t c =
    let some : 0 < length c.args.entries.items = search rules in
    omega (arith, some_level (prefix_by Dest) c.args.levels c.args.entries.items some c.requires.within)

pub grow_inner-requires : goal.grow_inner-requires
grow_inner-requires t c =
    let some : 0 < length c.args.entries.items = search rules in
    let e = some_level (prefix_by Dest) c.args.levels c.args.entries.items some c.requires.within in
    let half : one_half (prefix_by Dest) (c.args.levels - 1) c.args.entries.items ≡ true =
    ap (one_half (prefix_by Dest) (c.args.levels - 1)) (sym c.deref.ensures.value) ∙ sym c.one_half.ensures ∙ c.if-one_half.true in
    (omega arith, (omega arith, (half_passed (prefix_by Dest) c.args.levels (c.args.levels - 1) c.args.entries.items e half c.requires.within, (c.requires.room, c.requires.slots))))

pub returns-then-one_half : goal.returns-then-one_half
returns-then-one_half t c =
    let some : 0 < length c.args.entries.items = search rules in
    let e = some_level (prefix_by Dest) c.args.levels c.args.entries.items some c.requires.within in
    IfOk-weaker c.grow_inner.result (λ at. InnerGrown c.args.chains.now c.grow_inner.new.chains c.args.nodes.now.items c.grow_inner.new.nodes.items at (c.args.levels - 1) c.args.entries.items) (λ at. InnerGrown c.args.chains.now c.grow_inner.new.chains c.args.nodes.now.items c.grow_inner.new.nodes.items at c.args.levels c.args.entries.items)
    (λ at g. inner_passed c.args.chains.now c.grow_inner.new.chains c.args.nodes.now.items c.grow_inner.new.nodes.items at c.args.levels (c.args.levels - 1) c.args.entries.items e g) c.grow_inner.ensures

pub grow_inner-requires-2 : goal.grow_inner-requires-2
grow_inner-requires-2 t c =
    let some : 0 < length c.args.entries.items = search rules in
    let e = some_level (prefix_by Dest) c.args.levels c.args.entries.items some c.requires.within in
    let el : c.in_ok-low.low.items ≡ filter (λ x. is_low (c.args.levels - 1) (prefix_by Dest x)) c.args.entries.items =
    c.in_ok-low.ensures ∙ ap (filter (λ x. is_low (c.args.levels - 1) (prefix_by Dest x))) c.deref-4.ensures.value in
    let few = parts_length (prefix_by Dest) (c.args.levels - 1) c.args.entries.items in (
      omega arith,
      (
        omega arith,
        (
          subst (λ ys. All (λ x. IsWithin (c.args.levels - 1) (home_of (prefix_by Dest) ys) (prefix_by Dest x)) ys) (sym el) (lows_within (prefix_by Dest) c.args.levels (c.args.levels - 1) c.args.entries.items e c.requires.within),
          (omega (arith, few, ap length el), omega (arith, few, ap length el)),
        ),
      ),
    )

pub grow_inner-requires-3 : goal.grow_inner-requires-3
grow_inner-requires-3 t c =
    let some : 0 < length c.args.entries.items = search rules in
    let e = some_level (prefix_by Dest) c.args.levels c.args.entries.items some c.requires.within in
    let el : c.in_ok-low.low.items ≡ filter (λ x. is_low (c.args.levels - 1) (prefix_by Dest x)) c.args.entries.items =
    c.in_ok-low.ensures ∙ ap (filter (λ x. is_low (c.args.levels - 1) (prefix_by Dest x))) c.deref-4.ensures.value in
    let eh : c.in_ok-high.high.items ≡ filter (λ x. is_high (c.args.levels - 1) (prefix_by Dest x)) c.args.entries.items =
    c.in_ok-high.ensures ∙ ap (filter (λ x. is_high (c.args.levels - 1) (prefix_by Dest x))) c.deref-5.ensures.value in
    let few = parts_length (prefix_by Dest) (c.args.levels - 1) c.args.entries.items in
    let left : InnerGrown c.args.chains.now c.grow_inner-2.new.chains c.args.nodes.now.items c.grow_inner-2.new.nodes.items c.in_ok-left.left (c.args.levels - 1) c.in_ok-low.low.items = c.in_ok-left.ensures in (
      omega arith,
      (
        omega arith,
        (
          subst (λ ys. All (λ x. IsWithin (c.args.levels - 1) (home_of (prefix_by Dest) ys) (prefix_by Dest x)) ys) (sym eh) (highs_within (prefix_by Dest) c.args.levels (c.args.levels - 1) c.args.entries.items e c.requires.within),
          (omega (arith, few, ap length el, ap length eh, added_count c.args.chains.now c.grow_inner-2.new.chains c.in_ok-low.low.items left.added, inner_few c.args.chains.now c.grow_inner-2.new.chains c.args.nodes.now.items c.grow_inner-2.new.nodes.items c.in_ok-left.left (c.args.levels - 1) c.in_ok-low.low.items left), omega (arith, few, ap length el, ap length eh, added_count c.args.chains.now c.grow_inner-2.new.chains c.in_ok-low.low.items left.added, inner_few c.args.chains.now c.grow_inner-2.new.chains c.args.nodes.now.items c.grow_inner-2.new.nodes.items c.in_ok-left.left (c.args.levels - 1) c.in_ok-low.low.items left)),
        ),
      ),
    )

pub add_chain-requires : goal.add_chain-requires
add_chain-requires t c =
    let en : c.in_ok-here.here.items ≡ filter (λ x. is_here (c.args.levels - 1) (prefix_by Dest x)) c.args.entries.items =
    c.in_ok-here.ensures ∙ ap (filter (λ x. is_here (c.args.levels - 1) (prefix_by Dest x))) c.deref-3.ensures.value in
    let el : c.in_ok-low.low.items ≡ filter (λ x. is_low (c.args.levels - 1) (prefix_by Dest x)) c.args.entries.items =
    c.in_ok-low.ensures ∙ ap (filter (λ x. is_low (c.args.levels - 1) (prefix_by Dest x))) c.deref-4.ensures.value in
    let eh : c.in_ok-high.high.items ≡ filter (λ x. is_high (c.args.levels - 1) (prefix_by Dest x)) c.args.entries.items =
    c.in_ok-high.ensures ∙ ap (filter (λ x. is_high (c.args.levels - 1) (prefix_by Dest x))) c.deref-5.ensures.value in
    let few = parts_length (prefix_by Dest) (c.args.levels - 1) c.args.entries.items in
    let left : InnerGrown c.args.chains.now c.grow_inner-2.new.chains c.args.nodes.now.items c.grow_inner-2.new.nodes.items c.in_ok-left.left (c.args.levels - 1) c.in_ok-low.low.items = c.in_ok-left.ensures in
    let right : InnerGrown c.grow_inner-2.new.chains c.grow_inner-3.new.chains c.grow_inner-2.new.nodes.items c.grow_inner-3.new.nodes.items c.in_ok-right.right (c.args.levels - 1) c.in_ok-high.high.items = c.in_ok-right.ensures in
    omega (arith, few, ap length en, ap length el, ap length eh, added_count c.args.chains.now c.grow_inner-2.new.chains c.in_ok-low.low.items left.added, added_count c.grow_inner-2.new.chains c.grow_inner-3.new.chains c.in_ok-high.high.items right.added)

pub add_inner-requires : goal.add_inner-requires
add_inner-requires t c =
    let some : 0 < length c.args.entries.items = search rules in
    let el : c.in_ok-low.low.items ≡ filter (λ x. is_low (c.args.levels - 1) (prefix_by Dest x)) c.args.entries.items =
    c.in_ok-low.ensures ∙ ap (filter (λ x. is_low (c.args.levels - 1) (prefix_by Dest x))) c.deref-4.ensures.value in
    let eh : c.in_ok-high.high.items ≡ filter (λ x. is_high (c.args.levels - 1) (prefix_by Dest x)) c.args.entries.items =
    c.in_ok-high.ensures ∙ ap (filter (λ x. is_high (c.args.levels - 1) (prefix_by Dest x))) c.deref-5.ensures.value in
    let few = parts_length (prefix_by Dest) (c.args.levels - 1) c.args.entries.items in
    let left : InnerGrown c.args.chains.now c.grow_inner-2.new.chains c.args.nodes.now.items c.grow_inner-2.new.nodes.items c.in_ok-left.left (c.args.levels - 1) c.in_ok-low.low.items = c.in_ok-left.ensures in
    let right : InnerGrown c.grow_inner-2.new.chains c.grow_inner-3.new.chains c.grow_inner-2.new.nodes.items c.grow_inner-3.new.nodes.items c.in_ok-right.right (c.args.levels - 1) c.in_ok-high.high.items = c.in_ok-right.ensures in
    omega (arith, few, ap length el, ap length eh, inner_few c.args.chains.now c.grow_inner-2.new.chains c.args.nodes.now.items c.grow_inner-2.new.nodes.items c.in_ok-left.left (c.args.levels - 1) c.in_ok-low.low.items left, inner_few c.grow_inner-2.new.chains c.grow_inner-3.new.chains c.grow_inner-2.new.nodes.items c.grow_inner-3.new.nodes.items c.in_ok-right.right (c.args.levels - 1) c.in_ok-high.high.items right)

pub returns : goal.returns
returns t c =
    let some : 0 < length c.args.entries.items = search rules in
    let e = some_level (prefix_by Dest) c.args.levels c.args.entries.items some c.requires.within in
    let mixed : one_half (prefix_by Dest) (c.args.levels - 1) c.args.entries.items ≡ false =
    ap (one_half (prefix_by Dest) (c.args.levels - 1)) (sym c.deref.ensures.value) ∙ sym c.one_half.ensures ∙ c.if-one_half.false in
    let en : c.in_ok-here.here.items ≡ filter (λ x. is_here (c.args.levels - 1) (prefix_by Dest x)) c.args.entries.items =
    c.in_ok-here.ensures ∙ ap (filter (λ x. is_here (c.args.levels - 1) (prefix_by Dest x))) c.deref-3.ensures.value in
    let el : c.in_ok-low.low.items ≡ filter (λ x. is_low (c.args.levels - 1) (prefix_by Dest x)) c.args.entries.items =
    c.in_ok-low.ensures ∙ ap (filter (λ x. is_low (c.args.levels - 1) (prefix_by Dest x))) c.deref-4.ensures.value in
    let eh : c.in_ok-high.high.items ≡ filter (λ x. is_high (c.args.levels - 1) (prefix_by Dest x)) c.args.entries.items =
    c.in_ok-high.ensures ∙ ap (filter (λ x. is_high (c.args.levels - 1) (prefix_by Dest x))) c.deref-5.ensures.value in
    let ehome : c.home.result.0 ≡ home_of (prefix_by Dest) c.args.entries.items = c.home.ensures ∙ ap (home_of (prefix_by Dest)) c.deref-2.ensures.value in
    inner_node c.args.levels (c.args.levels - 1) c.args.entries.items c.args.chains.now c.grow_inner-2.new.chains c.grow_inner-3.new.chains c.add_chain.new.chains c.args.nodes.now.items c.grow_inner-2.new.nodes.items c.grow_inner-3.new.nodes.items c.add_inner.new.nodes.items
    c.in_ok-left.left c.in_ok-right.right c.in_ok-slot.slot c.in_ok-at.at c.over-prefix.result
    e c.requires.within some mixed
    (subst (λ ys. InnerGrown c.args.chains.now c.grow_inner-2.new.chains c.args.nodes.now.items c.grow_inner-2.new.nodes.items c.in_ok-left.left (c.args.levels - 1) ys) el c.in_ok-left.ensures)
    (subst (λ ys. InnerGrown c.grow_inner-2.new.chains c.grow_inner-3.new.chains c.grow_inner-2.new.nodes.items c.grow_inner-3.new.nodes.items c.in_ok-right.right (c.args.levels - 1) ys) eh c.in_ok-right.ensures)
    (subst (λ ys. ChainGrown c.grow_inner-3.new.chains c.add_chain.new.chains c.in_ok-slot.slot ys) en c.in_ok-slot.ensures)
    c.in_ok-at.ensures.added c.in_ok-at.ensures.link c.over-prefix.ensures.level (c.over-prefix.ensures.block ∙ ap (λ x. x / 2 ^ (c.args.levels - 1)) ehome)
