use Rattle.std.proofs.Common.{◌≡◌, ◌+◌, ◌-◌, suc, sym, ap, ◌∙◌, arith}
use Rattle.asa_trie.specs.Tries.{walk}
use Rattle.asa_trie.proofs.SumLaws.{unit_right}
use Rattle.asa_trie.proofs.TrieLaws.{walk_done, walk_end, walk_next}
use Rattle.asa_fib.specs.Routes.{better}
use Rattle.asa_fib.specs.Lookup.{ways, links}
use Rattle.asa_fib.proofs.WayLaws.{way_laws, better_assoc}
use Rattle.asa_fib.proofs.fib.best_to.Goals as goal

pub returns-in-None-clause-value : goal.returns-in-None-clause-value
returns-in-None-clause-value c =
    sym (unit_right ways way_laws c.loop.best)
    ∙ ap (λ x. better c.loop.best x) (sym (walk_done ways links (λ n. n.best) c.args.nodes.now (33 - c.loop.counter) c.loop.at c.args.a.0 (sym c.in-None.ensures.value)))
    ∙ c.loop.invariant.value

pub loop-preserved : goal.loop-preserved
loop-preserved c =
    let left : 33 - c.loop.counter ≡ suc (33 - (c.loop.counter + 1)) = omega arith in
    let next = walk_next ways links (λ n. n.best) c.args.nodes.now (33 - (c.loop.counter + 1)) c.loop.at c.args.a.0 c.in-Some.node (sym c.in-Some.ensures.value) in
    record {
      value =
          ap (λ b. better b (walk ways links (λ n. n.best) c.args.nodes.now (33 - (c.loop.counter + 1)) c.child-at.result c.args.a.0)) c.better-best.ensures
          ∙ better_assoc c.loop.best c.in-Some.node.best (walk ways links (λ n. n.best) c.args.nodes.now (33 - (c.loop.counter + 1)) c.child-at.result c.args.a.0)
          ∙ ap (λ at. better c.loop.best (better c.in-Some.node.best (walk ways links (λ n. n.best) c.args.nodes.now (33 - (c.loop.counter + 1)) at c.args.a.0))) c.child-at.ensures
          ∙ ap (λ x. better c.loop.best x) (sym next ∙ ap (λ fuel. walk ways links (λ n. n.best) c.args.nodes.now fuel c.loop.at c.args.a.0) (sym left))
          ∙ c.loop.invariant.value;
      reads = omega (arith, c.in-Some.ensures.reads, c.loop.invariant.reads);
    }

pub returns-clause-value : goal.returns-clause-value
returns-clause-value c =
    let none : 33 - c.loop.counter ≡ 0 = omega arith in
    sym (unit_right ways way_laws c.loop.best)
    ∙ ap (λ x. better c.loop.best x) (sym (ap (λ fuel. walk ways links (λ n. n.best) c.args.nodes.now fuel c.loop.at c.args.a.0) none ∙ walk_end ways links (λ n. n.best) c.args.nodes.now c.loop.at c.args.a.0))
    ∙ c.loop.invariant.value
