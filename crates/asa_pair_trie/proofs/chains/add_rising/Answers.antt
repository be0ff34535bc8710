use Rattle.std.proofs.Common.{◌≡◌, ℕ, ◌+◌, ◌-◌, ◌<◌, ◌++◌, ◌∷◌, [], List, Some, length, drop, sym, ap, ◌∙◌, subst, arith, refl, length-append, drop_of_length-le, le_refl}
use Rattle.std.specs.Prelude.{slice_get}
use Rattle.std.proofs.lemmas.Option.{slice_get_read, slice_get_within, get_or_from_slice_get}
use Rattle.asa_trie.specs.Tries.{Later}
use Rattle.asa_trie.proofs.TrieLaws.{later_refl, later_next, later_push}
use Rattle.asa_pair_trie.specs.declared.entries.Entry.{Entry}
use Rattle.asa_pair_trie.specs.declared.arenas.Slot.{Slot}
use Rattle.asa_pair_trie.specs.Growth.{Chained, Added}
use Rattle.asa_pair_trie.proofs.HeldLaws.{added_none, added_push}
use Rattle.asa_pair_trie.proofs.SlotLaws.{chained_none, chained_push, pushed_top, drop_front}
use Rattle.asa_pair_trie.proofs.chains.add_rising.Goals as goal

pub loop-k-init : goal.loop-k-init
loop-k-init c = record {
  within = le_refl (length c.args.entries.now);
  later = later_refl c.args.chains.now;
  chained = subst (λ es. Chained c.args.chains.now 0 es) (sym (drop_of_length-le c.args.entries.now (le_refl (length c.args.entries.now)))) (chained_none c.args.chains.now);
  added = added_none c.args.chains.now (drop (length c.args.entries.now) c.args.entries.now) (ap length (drop_of_length-le c.args.entries.now (le_refl (length c.args.entries.now))));
  count = refl;
  top = λ t e. cc;
}

pub push-requires-clause-rises : goal.push-requires-clause-rises
push-requires-clause-rises c = λ t here.
    let k : ℕ = c.loop-k.k in
    let e : Entry = c.index-entries-k.result in
    let next : slice_get c.args.entries.now k ≡ Some t.entry = c.loop-k.invariant.top t here in
    let rise = c.requires.rising (k - 1) k e (omega arith) (slice_get_within c.args.entries.now k t.entry next) in
    omega (arith, rise, ap (λ x. x.rank) (get_or_from_slice_get c.args.entries.now k t.entry e next), ap (λ x. x.rank) c.index-entries-k.is)

pub loop-k-preserved : goal.loop-k-preserved
loop-k-preserved c =
    let k : ℕ = c.loop-k.k in
    let e : Entry = c.index-entries-k.result in
    let less : k - 1 < length c.args.entries.now = omega (arith, c.loop-k.invariant.within) in
    let back : (k - 1) + 1 ≡ k = omega arith in
    let new : List Slot = c.push.new.self in
    let front : drop (k - 1) c.args.entries.now ≡ e ∷ drop k c.args.entries.now =
    drop_front c.args.entries.now (k - 1) e less c.index-entries-k.is ∙ ap (λ n. e ∷ drop n c.args.entries.now) back in
    let added : new ≡ c.loop-k.chains ++ record { entry = e; next = c.loop-k.at } ∷ [] = c.in_ok-at.ensures.added in
    let long : length new ≡ length c.loop-k.chains + 1 = ap length added ∙ length-append c.loop-k.chains (record { entry = e; next = c.loop-k.at } ∷ []) in
    record {
      within = omega arith;
      later = later_next c.args.chains.now c.loop-k.chains new c.loop-k.invariant.later (subst (λ ys. Later c.loop-k.chains ys) (sym added) (later_push c.loop-k.chains (record { entry = e; next = c.loop-k.at })));
      chained = subst (λ es. Chained new c.in_ok-at.at es) (sym front)
          (chained_push c.loop-k.chains new c.loop-k.at c.in_ok-at.at e (drop k c.args.entries.now) c.loop-k.invariant.chained added c.in_ok-at.ensures.link);
      added = subst (λ es. Added c.args.chains.now new es) (sym front)
          (added_push c.args.chains.now c.loop-k.chains new (record { entry = e; next = c.loop-k.at }) (drop k c.args.entries.now) added c.loop-k.invariant.added);
      count = omega (arith, long, c.loop-k.invariant.count);
      top = λ t here. subst (λ x. slice_get c.args.entries.now (k - 1) ≡ Some x.entry)
          (pushed_top c.loop-k.chains new (record { entry = e; next = c.loop-k.at }) t c.in_ok-at.at added c.in_ok-at.ensures.link here)
          (slice_get_read c.args.entries.now (length c.args.entries.now) (k - 1) e refl less c.index-entries-k.is);
    }
