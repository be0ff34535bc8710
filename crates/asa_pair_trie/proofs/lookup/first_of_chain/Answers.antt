use Rattle.std.proofs.Common.{◌≡◌, true, false, sym, ap, ◌∙◌, arith}
use Rattle.asa_base.specs.Boxes.{service_holds}
use Rattle.asa_pair_trie.specs.Pairs.{lesser}
use Rattle.asa_pair_trie.specs.Lookup.{chain, precedes}
use Rattle.asa_pair_trie.proofs.RankLaws.{lesser_none}
use Rattle.asa_pair_trie.proofs.SlotLaws.{is_step, stop_above, stop_at, chain_none}
use Rattle.asa_pair_trie.proofs.lookup.first_of_chain.Goals as goal

pub returns-then-not-precedes-clause-value : goal.returns-then-not-precedes-clause-value
returns-then-not-precedes-clause-value c =
    let s = is_step c.args.slots.now c.args.p.now c.requires c.loop-slot.at c.in-Some.slot.now (sym c.in-Some.ensures.value) in
    let not_less : precedes c.in-Some.slot.now.entry.rank c.args.best ≡ false = sym c.precedes.ensures ∙ c.if-not-precedes.true in
    stop_above c.args.best (chain c.args.slots.now c.args.p.now c.loop-slot.at c.loop-slot.at).rank c.in-Some.slot.now.entry.rank not_less s.floor ∙ c.loop-slot.invariant.value

pub returns-then-not-precedes-clause-reads : goal.returns-then-not-precedes-clause-reads
returns-then-not-precedes-clause-reads c =
    let s = is_step c.args.slots.now c.args.p.now c.requires c.loop-slot.at c.in-Some.slot.now (sym c.in-Some.ensures.value) in
    omega (arith, s.read, s.tick, c.in-Some.ensures.reads, c.loop-slot.invariant.reads)

pub returns-then-holds-clause-value : goal.returns-then-holds-clause-value
returns-then-holds-clause-value c =
    let s = is_step c.args.slots.now c.args.p.now c.requires c.loop-slot.at c.in-Some.slot.now (sym c.in-Some.ensures.value) in
    let less : precedes c.in-Some.slot.now.entry.rank c.args.best ≡ true = sym c.precedes.ensures ∙ c.if-not-precedes.false in
    let held : service_holds c.in-Some.slot.now.entry.service c.args.p.now ≡ true = sym c.holds.ensures ∙ c.if-holds.true in
    stop_at c.args.best (chain c.args.slots.now c.args.p.now c.in-Some.slot.now.next c.in-Some.slot.now.next).rank c.in-Some.slot.now.entry.rank less s.rest
    ∙ ap (λ x. lesser c.args.best x) (sym (rw held at s.rank))
    ∙ c.loop-slot.invariant.value

pub returns-then-holds-clause-reads : goal.returns-then-holds-clause-reads
returns-then-holds-clause-reads c =
    let s = is_step c.args.slots.now c.args.p.now c.requires c.loop-slot.at c.in-Some.slot.now (sym c.in-Some.ensures.value) in
    omega (arith, s.read, s.tick, c.in-Some.ensures.reads, c.loop-slot.invariant.reads)

pub loop-slot-preserved : goal.loop-slot-preserved
loop-slot-preserved c =
    let s = is_step c.args.slots.now c.args.p.now c.requires c.loop-slot.at c.in-Some.slot.now (sym c.in-Some.ensures.value) in
    let missed : service_holds c.in-Some.slot.now.entry.service c.args.p.now ≡ false = sym c.holds.ensures ∙ c.if-holds.false in
    record {
      value = ap (λ x. lesser c.args.best x) (sym (rw missed at s.rank)) ∙ c.loop-slot.invariant.value;
      reads = omega (arith, s.read, s.tick, c.in-Some.ensures.reads, c.loop-slot.invariant.reads);
    }

pub returns-clause-value : goal.returns-clause-value
returns-clause-value c = sym (lesser_none c.args.best) ∙ ap (λ x. lesser c.args.best x.rank) (sym (chain_none c.args.slots.now c.args.p.now c.loop-slot.at c.loop-slot.at (sym c.in_default.ensures.value))) ∙ c.loop-slot.invariant.value
