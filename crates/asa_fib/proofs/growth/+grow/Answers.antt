use Rattle.std.proofs.Common.{rules, ◌≡◌, ◌-◌, ◌^◌, ◌/◌, ◌<◌, true, false, length, filter, sym, ap, ◌∙◌, arith, subst, refl}
use Rattle.std.specs.List.{All}
use Rattle.std.specs.Bool.{IsTrue}
use Rattle.asa_trie.specs.Bits.{home_of, IsWithin, is_here, is_low, is_high, one_half}
use Rattle.asa_fib.specs.declared.fib.FibNode.{FibNode}
use Rattle.asa_fib.specs.Routes.{best_of}
use Rattle.asa_fib.specs.Lookup.{ways, links}
use Rattle.asa_fib.specs.Growth.{prefix_of, value_of, is_whole, FibGrown}
use Rattle.asa_trie.proofs.BlockLaws.{half_passed, lows_within, highs_within, parts_length, some_level}
use Rattle.asa_trie.proofs.TrieLaws.{grown_none, grown_passed, grown_node}
use Rattle.std.proofs.lemmas.Result.{IfOk-weaker}
use Rattle.std.proofs.lemmas.List.Elements.{All-filter}
use Rattle.asa_fib.proofs.WayLaws.{way_laws, best_is_sum}
use Rattle.asa_fib.proofs.KeptLaws.{best_none, best_node, given_none, given_node, heres_same}
use Rattle.asa_fib.proofs.growth.+grow.Goals as goal

pub returns-then-is_empty : goal.returns-then-is_empty
returns-then-is_empty t c =
    let none : length c.args.routes.items ≡ 0 = search rules in
    record {
      nodes = grown_none ways links (λ n. n.best) prefix_of value_of (home_of prefix_of c.args.routes.items) c.args.nodes.now.items c.args.levels c.args.routes.items none;
      best = best_none c.args.nodes.now.items c.args.routes.items none;
      given = given_none c.args.nodes.now.items c.args.routes.items;
    }

pub overflow_sub-level : goal.overflow_sub-level
overflow_sub-level t c =
    let some : 0 < length c.args.routes.items = search rules in
    omega (arith, some_level prefix_of c.args.levels c.args.routes.items some c.requires.within)

pub grow-requires : goal.grow-requires
grow-requires t c =
    let some : 0 < length c.args.routes.items = search rules in
    let e = some_level prefix_of c.args.levels c.args.routes.items some c.requires.within in
    let half : one_half prefix_of (c.args.levels - 1) c.args.routes.items ≡ true =
    ap (one_half prefix_of (c.args.levels - 1)) (sym c.deref.ensures.value) ∙ sym c.one_half.ensures ∙ c.if-one_half.true in
    (omega arith, (omega arith, (c.requires.whole, (half_passed prefix_of c.args.levels (c.args.levels - 1) c.args.routes.items e half c.requires.within, c.requires.room))))

pub returns-then-one_half : goal.returns-then-one_half
returns-then-one_half t c =
    let some : 0 < length c.args.routes.items = search rules in
    let e = some_level prefix_of c.args.levels c.args.routes.items some c.requires.within in
    IfOk-weaker c.grow.result (λ at. FibGrown c.args.nodes.now.items c.grow.new.nodes.items at (c.args.levels - 1) c.args.routes.items)
    (λ at. FibGrown c.args.nodes.now.items c.grow.new.nodes.items at c.args.levels c.args.routes.items)
    (λ at g. record {
      nodes = grown_passed ways links (λ n. n.best) prefix_of value_of (home_of prefix_of c.args.routes.items) c.args.nodes.now.items c.grow.new.nodes.items at c.args.levels (c.args.levels - 1) c.args.routes.items e g.nodes;
      best = g.best;
      given = g.given;
    })
    c.grow.ensures

pub grow-requires-2 : goal.grow-requires-2
grow-requires-2 t c =
    let some : 0 < length c.args.routes.items = search rules in
    let e = some_level prefix_of c.args.levels c.args.routes.items some c.requires.within in
    let el : c.in_ok-low.low.items ≡ filter (λ r. is_low (c.args.levels - 1) (prefix_of r)) c.args.routes.items =
    c.in_ok-low.ensures ∙ ap (filter (λ r. is_low (c.args.levels - 1) (prefix_of r))) c.deref-4.ensures.value in
    let few = parts_length prefix_of (c.args.levels - 1) c.args.routes.items in (
      omega arith,
      (
        omega arith,
        (
          subst (λ ys. All (λ r. IsTrue (is_whole r)) ys) (sym el) (All-filter (λ r. is_low (c.args.levels - 1) (prefix_of r)) (λ r. IsTrue (is_whole r)) c.args.routes.items c.requires.whole),
          (
            subst (λ ys. All (λ r. IsWithin (c.args.levels - 1) (home_of prefix_of ys) (prefix_of r)) ys) (sym el) (lows_within prefix_of c.args.levels (c.args.levels - 1) c.args.routes.items e c.requires.within),
            omega (arith, few, ap length el),
          ),
        ),
      ),
    )

pub grow-requires-3 : goal.grow-requires-3
grow-requires-3 t c =
    let some : 0 < length c.args.routes.items = search rules in
    let e = some_level prefix_of c.args.levels c.args.routes.items some c.requires.within in
    let el : c.in_ok-low.low.items ≡ filter (λ r. is_low (c.args.levels - 1) (prefix_of r)) c.args.routes.items =
    c.in_ok-low.ensures ∙ ap (filter (λ r. is_low (c.args.levels - 1) (prefix_of r))) c.deref-4.ensures.value in
    let eh : c.in_ok-high.high.items ≡ filter (λ r. is_high (c.args.levels - 1) (prefix_of r)) c.args.routes.items =
    c.in_ok-high.ensures ∙ ap (filter (λ r. is_high (c.args.levels - 1) (prefix_of r))) c.deref-5.ensures.value in
    let few = parts_length prefix_of (c.args.levels - 1) c.args.routes.items in
    let left : FibGrown c.args.nodes.now.items c.grow-2.new.nodes.items c.in_ok-left.left (c.args.levels - 1) c.in_ok-low.low.items = c.in_ok-left.ensures in (
      omega arith,
      (
        omega arith,
        (
          subst (λ ys. All (λ r. IsTrue (is_whole r)) ys) (sym eh) (All-filter (λ r. is_high (c.args.levels - 1) (prefix_of r)) (λ r. IsTrue (is_whole r)) c.args.routes.items c.requires.whole),
          (
            subst (λ ys. All (λ r. IsWithin (c.args.levels - 1) (home_of prefix_of ys) (prefix_of r)) ys) (sym eh) (highs_within prefix_of c.args.levels (c.args.levels - 1) c.args.routes.items e c.requires.within),
            omega (arith, few, ap length el, ap length eh, left.nodes.few),
          ),
        ),
      ),
    )

pub add-requires : goal.add-requires
add-requires t c =
    let some : 0 < length c.args.routes.items = search rules in
    let el : c.in_ok-low.low.items ≡ filter (λ r. is_low (c.args.levels - 1) (prefix_of r)) c.args.routes.items =
    c.in_ok-low.ensures ∙ ap (filter (λ r. is_low (c.args.levels - 1) (prefix_of r))) c.deref-4.ensures.value in
    let eh : c.in_ok-high.high.items ≡ filter (λ r. is_high (c.args.levels - 1) (prefix_of r)) c.args.routes.items =
    c.in_ok-high.ensures ∙ ap (filter (λ r. is_high (c.args.levels - 1) (prefix_of r))) c.deref-5.ensures.value in
    let few = parts_length prefix_of (c.args.levels - 1) c.args.routes.items in
    let left : FibGrown c.args.nodes.now.items c.grow-2.new.nodes.items c.in_ok-left.left (c.args.levels - 1) c.in_ok-low.low.items = c.in_ok-left.ensures in
    let right : FibGrown c.grow-2.new.nodes.items c.grow-3.new.nodes.items c.in_ok-right.right (c.args.levels - 1) c.in_ok-high.high.items = c.in_ok-right.ensures in
    omega (arith, few, ap length el, ap length eh, left.nodes.few, right.nodes.few)

pub returns : goal.returns
returns t c =
    let some : 0 < length c.args.routes.items = search rules in
    let e = some_level prefix_of c.args.levels c.args.routes.items some c.requires.within in
    let mixed : one_half prefix_of (c.args.levels - 1) c.args.routes.items ≡ false =
    ap (one_half prefix_of (c.args.levels - 1)) (sym c.deref.ensures.value) ∙ sym c.one_half.ensures ∙ c.if-one_half.false in
    let el : c.in_ok-low.low.items ≡ filter (λ r. is_low (c.args.levels - 1) (prefix_of r)) c.args.routes.items =
    c.in_ok-low.ensures ∙ ap (filter (λ r. is_low (c.args.levels - 1) (prefix_of r))) c.deref-4.ensures.value in
    let eh : c.in_ok-high.high.items ≡ filter (λ r. is_high (c.args.levels - 1) (prefix_of r)) c.args.routes.items =
    c.in_ok-high.ensures ∙ ap (filter (λ r. is_high (c.args.levels - 1) (prefix_of r))) c.deref-5.ensures.value in
    let ebest : c.best_here-best.result ≡ best_of (filter (λ r. is_here (c.args.levels - 1) (prefix_of r)) c.args.routes.items) =
    c.best_here-best.ensures ∙ ap (λ ys. best_of (filter (λ r. is_here (c.args.levels - 1) (prefix_of r)) ys)) c.deref-3.ensures.value in
    let low : FibGrown c.args.nodes.now.items c.grow-2.new.nodes.items c.in_ok-left.left (c.args.levels - 1) (filter (λ r. is_low (c.args.levels - 1) (prefix_of r)) c.args.routes.items) =
    subst (λ ys. FibGrown c.args.nodes.now.items c.grow-2.new.nodes.items c.in_ok-left.left (c.args.levels - 1) ys) el c.in_ok-left.ensures in
    let high : FibGrown c.grow-2.new.nodes.items c.grow-3.new.nodes.items c.in_ok-right.right (c.args.levels - 1) (filter (λ r. is_high (c.args.levels - 1) (prefix_of r)) c.args.routes.items) =
    subst (λ ys. FibGrown c.grow-2.new.nodes.items c.grow-3.new.nodes.items c.in_ok-right.right (c.args.levels - 1) ys) eh c.in_ok-right.ensures in
    let node : FibNode = record { prefix = c.block-prefix.result; best = c.best_here-best.result; left = c.in_ok-left.left; right = c.in_ok-right.right } in
    let home : c.block-prefix.result.addr.0 / 2 ^ (c.args.levels - 1) ≡ home_of prefix_of c.args.routes.items / 2 ^ (c.args.levels - 1) =
    c.block-prefix.ensures.home ∙ ap (λ ys. home_of prefix_of ys / 2 ^ (c.args.levels - 1)) c.deref-2.ensures.value in
    let same : All (λ r. prefix_of r ≡ c.block-prefix.result) (filter (λ r. is_here (c.args.levels - 1) (prefix_of r)) c.args.routes.items) =
    heres_same c.args.levels (c.args.levels - 1) (home_of prefix_of c.args.routes.items) c.block-prefix.result c.args.routes.items
    e c.requires.within c.requires.whole c.block-prefix.ensures.level home c.block-prefix.ensures.whole in
    record {
      nodes =
          grown_node ways way_laws links (λ n. n.best) prefix_of value_of c.args.levels (c.args.levels - 1) c.args.routes.items
          c.args.nodes.now.items c.grow-2.new.nodes.items c.grow-3.new.nodes.items c.add.new.nodes.items c.in_ok-left.left c.in_ok-right.right c.in_ok-at.at node
          e c.requires.within some mixed low.nodes high.nodes c.in_ok-at.ensures.added c.in_ok-at.ensures.link
          c.block-prefix.ensures.level home refl refl
          (ebest ∙ best_is_sum (filter (λ r. is_here (c.args.levels - 1) (prefix_of r)) c.args.routes.items));
      best =
          best_node (c.args.levels - 1) c.args.routes.items c.args.nodes.now.items c.grow-2.new.nodes.items c.grow-3.new.nodes.items c.add.new.nodes.items node
          same ebest low.best high.best c.in_ok-at.ensures.added;
      given =
          given_node (c.args.levels - 1) c.args.routes.items c.args.nodes.now.items c.grow-2.new.nodes.items c.grow-3.new.nodes.items c.add.new.nodes.items node
          same ebest low.given high.given c.in_ok-at.ensures.added;
    }
