use Rattle.std.proofs.Common.{◌≡◌, ◌+◌, ◌-◌, sym, ap, ◌∙◌, arith}
use Rattle.asa_trie.specs.Tries.{walk}
use Rattle.asa_pair_trie.specs.Pairs.{lesser}
use Rattle.asa_pair_trie.specs.Lookup.{seeing, inner_links, inner_value}
use Rattle.asa_pair_trie.proofs.LookLaws.{done, spent, next}
use Rattle.asa_pair_trie.proofs.lookup.first_of_inner.Goals as goal

pub returns-in-None-clause-value : goal.returns-in-None-clause-value
returns-in-None-clause-value c = done inner_links (inner_value c.args.slots.now c.args.p.now) c.args.nodes.now (33 - c.loop.counter) c.loop.at c.args.p.now.dst.0 c.loop.best (sym c.in-None.ensures.value) ∙ c.loop.invariant.value

pub loop-preserved : goal.loop-preserved
loop-preserved c =
    let n = next inner_links (inner_value c.args.slots.now c.args.p.now) c.args.nodes.now c.loop.counter c.loop.at c.args.p.now.dst.0 c.half-at.result c.in-Some.node c.loop.best (omega arith) (sym c.in-Some.ensures.value) c.half-at.ensures in
    record {
      value = ap (λ b. lesser b (walk seeing inner_links (inner_value c.args.slots.now c.args.p.now) c.args.nodes.now (33 - (c.loop.counter + 1)) c.half-at.result c.args.p.now.dst.0).rank) c.first_of_chain-best.ensures.value ∙ n.rank ∙ c.loop.invariant.value;
      reads = omega (arith, n.read, c.in-Some.ensures.reads, c.first_of_chain-best.ensures.reads, c.loop.invariant.reads);
    }

pub returns-clause-value : goal.returns-clause-value
returns-clause-value c =
    let none : 33 - c.loop.counter ≡ 0 = omega arith in
    spent inner_links (inner_value c.args.slots.now c.args.p.now) c.args.nodes.now (33 - c.loop.counter) c.loop.at c.args.p.now.dst.0 c.loop.best none ∙ c.loop.invariant.value
