-- Chains of slots.
use Rattle.std.proofs.Common.{◌≡◌, ℕ, zero, suc, ◌+◌, ◌≤◌, ◌<◌, inl, inr, List, [], ◌∷◌, ◌++◌, length, Option, Some, None, refl, sym, ap, ◌∙◌, subst, arith, length-append, get_or, drop, drop-cons, add-one, Bool, true, false, cond, min}
use Rattle.std.specs.Prelude.{IfSome}
use Rattle.std.proofs.lemmas.Bool.{true≢false, ltb-true, ltb-false}
use Rattle.asa_base.specs.Boxes.{service_holds}
use Rattle.std.specs.List.Sorted.{IsPermutation}
use Rattle.asa_base.specs.declared.flow.Packet.{Packet}
use Rattle.asa_trie.proofs.SumLaws.{sum_permutation}
use Rattle.asa_pair_trie.proofs.RankLaws.{seeing_laws}
use Rattle.asa_pair_trie.proofs.HeldLaws.{added_ordered}
use Rattle.asa_trie.specs.Tries.{node_at, Later, sum_over}
use Rattle.asa_trie.proofs.TrieLaws.{node_before, node_cases, node_last, later_push, later_next, same_some, some_none}
use Rattle.asa_pair_trie.specs.declared.entries.Entry.{Entry}
use Rattle.asa_pair_trie.specs.declared.arenas.Slot.{Slot}
use Rattle.asa_pair_trie.specs.Lookup.{both, seeing, seen, chain, IsRisingAt, IsRising, precedes, ticks}
use Rattle.asa_pair_trie.specs.Pairs.{lesser}
use Rattle.asa_pair_trie.specs.Growth.{Chained, ChainGrown}

pub chain_end : (slots : List Slot) (p : Packet) (fuel : ℕ) → chain slots p fuel 0 ≡ seeing.unit
unfolding chain
chain_end slots p zero = refl
chain_end slots p (suc fuel) = refl

chain_zero : (slots : List Slot) (p : Packet) (at : ℕ) → chain slots p 0 at ≡ seeing.unit
unfolding chain
chain_zero slots p at = refl

pub chain_none : (slots : List Slot) (p : Packet) (fuel at : ℕ) → node_at slots at ≡ None → chain slots p fuel at ≡ seeing.unit
unfolding chain
chain_none slots p zero at e = refl
chain_none slots p (suc fuel) at e = rw (e, chain) refl

pub chain_over : (slots : List Slot) (p : Packet) (fuel at : ℕ) (s : Slot) → node_at slots at ≡ Some s → chain slots p (suc fuel) at ≡ both (seen p s.entry) (chain slots p fuel s.next)
unfolding chain
chain_over slots p fuel at s e = rw (e, chain) refl

-- a slot whose rank is no greater than that of the next goes on in rising order
pub rising_push : (xs : List Slot) (s : Slot) → IsRising xs → s.next ≤ length xs → ((t : Slot) → node_at xs s.next ≡ Some t → s.entry.rank ≤ t.entry.rank) → IsRising (xs ++ s ∷ [])
rising_push xs s h before rises i t here = elim (node_cases xs s i t here) [
  | inl old ↦ kept (h i t old.1) old.0
  | inr own ↦ subst (λ x. IsRisingAt (xs ++ s ∷ []) i x) (sym own.1) (record {
    before = omega (arith, own.0);
    rises = λ u found. rises u (sym (node_before xs s s.next before) ∙ found);
  })
]
  where
    kept : IsRisingAt xs i t → i ≤ length xs → IsRisingAt (xs ++ s ∷ []) i t
    kept r le = record {
      before = r.before;
      rises = λ u found. r.rises u (sym (node_before xs s t.next (omega (arith, r.before))) ∙ found);
    }

pub chained_none : (slots : List Slot) → Chained slots 0 []
chained_none slots = record { sum = λ later l p fuel le. chain_end later p fuel; known = omega arith }

-- one more entry at the front of a chain
pub chained_push : (slots new : List Slot) (at link : ℕ) (e : Entry) (es : List Entry) → Chained slots at es
    → new ≡ slots ++ record { entry = e; next = at } ∷ [] → link ≡ length new → Chained new link (e ∷ es)
chained_push slots new at link e es h pushed place = record {
  sum = λ later l p fuel le. walked later (later_next slots new later stays l) (l link (record { entry = e; next = at }) stands) p fuel le;
  known = omega (arith, long);
}
  where
    long : length new ≡ length slots + 1
    long = ap length pushed ∙ length-append slots (record { entry = e; next = at } ∷ [])

    stays : Later slots new
    stays = subst (λ ys. Later slots ys) (sym pushed) (later_push slots (record { entry = e; next = at }))

    stands : node_at new link ≡ Some (record { entry = e; next = at })
    stands = subst (λ ys. node_at ys link ≡ Some (record { entry = e; next = at })) (sym pushed) (node_last slots (record { entry = e; next = at }) link (place ∙ long))

    walked : (later : List Slot) → Later slots later → node_at later link ≡ Some (record { entry = e; next = at }) → (p : Packet) (fuel : ℕ) → link ≤ fuel
        → chain later p fuel link ≡ both (seen p e) (sum_over seeing (seen p) es)
    walked later l here p zero le = absurd (omega (arith, long))
    walked later l here p (suc fuel) le =
        chain_over later p fuel link (record { entry = e; next = at }) here ∙ ap (λ x. both (seen p e) x) (h.sum later l p fuel (omega (arith, h.known, long)))

-- the front of a list that is dropped up to its middle
pub drop_front : (es : List Entry) (k : ℕ) (x : Entry) → k < length es → x ≡ get_or es k x → drop k es ≡ x ∷ drop (k + 1) es
drop_front es k x less e = rw add-one (drop-cons es k x less ∙ ap (λ y. y ∷ drop (suc k) es) (sym e))

-- the slot of the last link is the pushed one
pub pushed_top : (slots new : List Slot) (s t : Slot) (link : ℕ) → new ≡ slots ++ s ∷ [] → link ≡ length new → node_at new link ≡ Some t → s ≡ t
pushed_top slots new s t link pushed place here =
    let long : length new ≡ length slots + 1 = ap length pushed ∙ length-append slots (s ∷ []) in
    let stands : node_at new link ≡ Some s = subst (λ ys. node_at ys link ≡ Some s) (sym pushed) (node_last slots s link (place ∙ long)) in
    same_some (sym stands ∙ here)

-- a chain holds the entries in whatever order
pub chain_ordered : (old new : List Slot) (at : ℕ) (es ordered : List Entry) → IsPermutation es ordered → ChainGrown old new at ordered → ChainGrown old new at es
chain_ordered old new at es ordered same h = record {
  later = h.later;
  chained = record {
    sum = λ later l p fuel le. h.chained.sum later l p fuel le ∙ sum_permutation seeing seeing_laws (seen p) es ordered same;
    known = h.chained.known;
  };
  added = added_ordered old new es ordered same h.added;
}

-- along a chain of rising ranks more fuel than the link changes nothing
pub chain_same : (slots : List Slot) (p : Packet) → IsRising slots → (f g at : ℕ) → at ≤ f → at ≤ g → chain slots p f at ≡ chain slots p g at
chain_same slots p rising zero g zero lf lg = chain_end slots p 0 ∙ sym (chain_end slots p g)
chain_same slots p rising zero g (suc at) lf lg = absurd (omega arith)
chain_same slots p rising (suc f) zero zero lf lg = chain_end slots p (suc f) ∙ sym (chain_end slots p 0)
chain_same slots p rising (suc f) zero (suc at) lf lg = absurd (omega arith)
chain_same slots p rising (suc f) (suc g) at lf lg = of_node (λ next ln lm. chain_same slots p rising f g next ln lm) (node_at slots at) refl
  where
    of_node : ((next : ℕ) → next ≤ f → next ≤ g → chain slots p f next ≡ chain slots p g next) → (o : Option Slot) → node_at slots at ≡ o → chain slots p (suc f) at ≡ chain slots p (suc g) at
    of_node more None e = chain_none slots p (suc f) at e ∙ sym (chain_none slots p (suc g) at e)
    of_node more (Some s) e =
        let r = rising at s e in
        chain_over slots p f at s e
        ∙ ap (λ x. both (seen p s.entry) x) (more s.next (omega (arith, r.before)) (omega (arith, r.before)))
        ∙ sym (chain_over slots p g at s e)

-- one step along a chain of rising ranks
pub chain_step : (slots : List Slot) (p : Packet) → IsRising slots → (at : ℕ) (s : Slot) → node_at slots at ≡ Some s
    → chain slots p at at ≡ both (seen p s.entry) (chain slots p s.next s.next)
chain_step slots p rising zero s e = absurd (some_none (sym e))
chain_step slots p rising (suc i) s e =
    let r = rising (suc i) s e in
    chain_over slots p i (suc i) s e ∙ ap (λ x. both (seen p s.entry) x) (chain_same slots p rising i s.next s.next (omega (arith, r.before)) (omega arith))

-- no rank of a chain is less than the first one
pub chain_floor : (slots : List Slot) (p : Packet) → IsRising slots → (fuel at r : ℕ) → ((s : Slot) → node_at slots at ≡ Some s → r ≤ s.entry.rank)
    → IfSome (chain slots p fuel at).rank (λ x. r ≤ x)
chain_floor slots p rising zero at r low = subst (λ c. IfSome c.rank (λ x. r ≤ x)) (sym (chain_zero slots p at)) tt
chain_floor slots p rising (suc fuel) at r low = of_node (λ next floor. chain_floor slots p rising fuel next r floor) (node_at slots at) refl
  where
    with_rest : (v : Bool) (rank : ℕ) (rest : Option ℕ) → r ≤ rank → IfSome rest (λ x. r ≤ x) → IfSome (lesser (cond v (Some rank) None) rest) (λ x. r ≤ x)
    with_rest true rank None le h = le
    with_rest true rank (Some x) le h = omega arith
    with_rest false rank rest le h = h

    of_node : ((next : ℕ) → ((s : Slot) → node_at slots next ≡ Some s → r ≤ s.entry.rank) → IfSome (chain slots p fuel next).rank (λ x. r ≤ x)) → (o : Option Slot) → node_at slots at ≡ o → IfSome (chain slots p (suc fuel) at).rank (λ x. r ≤ x)
    of_node more None e = subst (λ c. IfSome c.rank (λ x. r ≤ x)) (sym (chain_none slots p (suc fuel) at e)) tt
    of_node more (Some s) e =
        let up = rising at s e in
        subst (λ c. IfSome c.rank (λ x. r ≤ x)) (sym (chain_over slots p fuel at s e))
        (with_rest (service_holds s.entry.service p) s.entry.rank (chain slots p fuel s.next).rank (low s e)
        (more s.next (λ t here. omega (arith, low s e, up.rises t here))))

-- a rank that isn't less than the best one so far, and all after it, change nothing
pub stop_above : (best c : Option ℕ) (r : ℕ) → precedes r best ≡ false → IfSome c (λ x. r ≤ x) → best ≡ lesser best c
stop_above None c r not_less low = absurd (true≢false not_less)
stop_above (Some b) None r not_less low = refl
stop_above (Some b) (Some x) r not_less low = let le : b ≤ r = ltb-false r b not_less in let e : b ≡ min b x = omega arith in ap (λ y. Some y) e

-- a rank that is less than the best one so far is the least, where none after it is less
pub stop_at : (best c : Option ℕ) (r : ℕ) → precedes r best ≡ true → IfSome c (λ x. r ≤ x) → Some r ≡ lesser best (lesser (Some r) c)
stop_at None None r less low = refl
stop_at None (Some x) r less low = let e : r ≡ min r x = omega arith in ap (λ y. Some y) e
stop_at (Some b) None r less low = let lt : r < b = ltb-true r b less in let e : r ≡ min b r = omega arith in ap (λ y. Some y) e
stop_at (Some b) (Some x) r less low = let lt : r < b = ltb-true r b less in let e : r ≡ min b (min r x) = omega arith in ap (λ y. Some y) e

-- what is known at a slot of a chain of rising ranks
pub record IsStep (slots : List Slot) (p : Packet) (at : ℕ) (s : Slot) : Type 0 where
  pub rank : (chain slots p at at).rank ≡ lesser (cond (service_holds s.entry.service p) (Some s.entry.rank) None) (chain slots p s.next s.next).rank
  pub read : (chain slots p at at).read ≡ 1 + (chain slots p s.next s.next).read
  pub floor : IfSome (chain slots p at at).rank (λ x. s.entry.rank ≤ x)
  pub rest : IfSome (chain slots p s.next s.next).rank (λ x. s.entry.rank ≤ x)
  pub tick : ticks (node_at slots at) ≡ 1

pub is_step : (slots : List Slot) (p : Packet) → IsRising slots → (at : ℕ) (s : Slot) → node_at slots at ≡ Some s → IsStep slots p at s
is_step slots p rising at s here =
    let st = chain_step slots p rising at s here in
    let up = rising at s here in
    record {
      rank = ap (λ x. x.rank) st;
      read = ap (λ x. x.read) st;
      floor = chain_floor slots p rising at at s.entry.rank (λ t e. own t (same_some (sym here ∙ e)));
      rest = chain_floor slots p rising s.next s.next s.entry.rank (λ t e. up.rises t e);
      tick = ap ticks here;
    }
  where
    own : (t : Slot) → s ≡ t → s.entry.rank ≤ t.entry.rank
    own t e = omega (arith, ap (λ x. x.entry.rank) e)
