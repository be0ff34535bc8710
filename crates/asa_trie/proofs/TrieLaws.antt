-- A trie that is built by dividing: what its nodes hold, whatever is pushed later.
use Rattle.std.proofs.Common.{◌≡◌, ℕ, zero, suc, ◌+◌, ◌-◌, ◌*◌, ◌/◌, ◌^◌, ◌<◌, ◌≤◌, ◌⊎◌, inl, inr, Bool, true, false, cond, List, [], ◌∷◌, ◌++◌, length, All, Option, Some, None, refl, sym, ap, subst, ◌∙◌, arith, length-append, eq-eqb}
use Rattle.std.specs.Prelude.{filter, slice_get}
use Rattle.std.proofs.lemmas.Bool.{eqb-true, cases_Bool, or_parts}
use Rattle.std.proofs.lemmas.Option.{slice_get_within, slice_get_cases}
use Rattle.std.proofs.lemmas.List.Elements.{All-filter}
use Rattle.asa_base.specs.Networks.{Network}
use Rattle.asa_trie.specs.Bits.{height, covers_number, bit_below, is_here, is_low, is_high, home_of, one_half, IsWithin}
use Rattle.asa_trie.specs.Tries.{Joining, Laws, Links, node_at, child, covering, walk, sum_over, total, Later, IsInner, IsNestedAt, IsNested, Grown}
use Rattle.asa_trie.proofs.BlockLaws.{same_above, inside_at, filter_shorter, parts_length}
use Rattle.asa_trie.proofs.SumLaws.{split, outside}

-- one step of a walk
pub walk_over : {N M : Type 0} (j : Joining M) (l : Links N) (w : N → M) (ys : List N) (fuel at a : ℕ) (n : N) → node_at ys at ≡ Some n → covers_number (l.prefix_of n) a ≡ true
    → walk j l w ys (suc fuel) at a ≡ j.op (w n) (walk j l w ys fuel (child l n a) a)
unfolding walk
walk_over j l w ys fuel at a n e cov = rw (e, walk, cov) refl

pub walk_stop : {N M : Type 0} (j : Joining M) (l : Links N) (w : N → M) (ys : List N) (fuel at a : ℕ) (n : N) → node_at ys at ≡ Some n → covers_number (l.prefix_of n) a ≡ false
    → walk j l w ys (suc fuel) at a ≡ j.unit
unfolding walk
walk_stop j l w ys fuel at a n e cov = rw (e, walk, cov) refl

walk_no_node : {N M : Type 0} (j : Joining M) (l : Links N) (w : N → M) (ys : List N) (fuel at a : ℕ) → node_at ys at ≡ None → walk j l w ys (suc fuel) at a ≡ j.unit
unfolding walk
walk_no_node j l w ys fuel at a e = rw (e, walk) refl

pub same_some : {N : Type 0} {x y : N} → Some x ≡ Some y → x ≡ y
same_some e = cc

pub some_none : {N : Type 0} {x : N} → Some x ≡ None → ⊥
some_none e = cc

pub walk_none : {N M : Type 0} (j : Joining M) (l : Links N) (w : N → M) (ys : List N) (fuel a : ℕ) → walk j l w ys fuel 0 a ≡ j.unit
unfolding walk
walk_none j l w ys zero a = refl
walk_none j l w ys (suc fuel) a = refl

pub walk_end : {N M : Type 0} (j : Joining M) (l : Links N) (w : N → M) (ys : List N) (at a : ℕ) → walk j l w ys 0 at a ≡ j.unit
unfolding walk
walk_end j l w ys at a = refl

-- a walk ends where no node covers the address, and goes on in the half that has it
pub walk_done : {N M : Type 0} (j : Joining M) (l : Links N) (w : N → M) (ys : List N) (fuel at a : ℕ) → covering l ys at a ≡ None → walk j l w ys fuel at a ≡ j.unit
walk_done j l w ys zero at a none = walk_end j l w ys at a
walk_done {N} {M} j l w ys (suc fuel) at a none = of_node (node_at ys at) refl
  where
    of_node : (o : Option N) → node_at ys at ≡ o → walk j l w ys (suc fuel) at a ≡ j.unit
    of_node None e = walk_no_node j l w ys fuel at a e
    of_node (Some n) e = elim (cases_Bool (covers_number (l.prefix_of n) a)) [
      | inl cov ↦ absurd (some_none (rw (e, cov) at none))
      | inr out ↦ walk_stop j l w ys fuel at a n e out
    ]

pub walk_next : {N M : Type 0} (j : Joining M) (l : Links N) (w : N → M) (ys : List N) (fuel at a : ℕ) (n : N) → covering l ys at a ≡ Some n
    → walk j l w ys (suc fuel) at a ≡ j.op (w n) (walk j l w ys fuel (child l n a) a)
walk_next {N} {M} j l w ys fuel at a n some = of_node (node_at ys at) refl
  where
    of_node : (o : Option N) → node_at ys at ≡ o → walk j l w ys (suc fuel) at a ≡ j.op (w n) (walk j l w ys fuel (child l n a) a)
    of_node None e = absurd (some_none (sym (rw e at some)))
    of_node (Some m) e = elim (cases_Bool (covers_number (l.prefix_of m) a)) [
      | inl cov ↦
          let same : m ≡ n = same_some (rw (e, cov) at some) in
          subst (λ x. walk j l w ys (suc fuel) at a ≡ j.op (w x) (walk j l w ys fuel (child l x a) a)) same (walk_over j l w ys fuel at a m e cov)
      | inr out ↦ absurd (some_none (sym (rw (e, out) at some)))
    ]

-- later lists
pub later_refl : {N : Type 0} (xs : List N) → Later xs xs
later_refl xs i n e = e

pub later_next : {N : Type 0} (xs ys zs : List N) → Later xs ys → Later ys zs → Later xs zs
later_next xs ys zs f g i n e = g i n (f i n e)

slice_get_before : {N : Type 0} (xs ys : List N) (i : ℕ) → i < length xs → slice_get (xs ++ ys) i ≡ slice_get xs i
slice_get_before [] ys i less = absurd (omega arith)
slice_get_before (x ∷ xs) ys zero less = refl
slice_get_before (x ∷ xs) ys (suc i) less = slice_get_before xs ys i (omega arith)

slice_get_at : {N : Type 0} (xs : List N) (y : N) → slice_get (xs ++ y ∷ []) (length xs) ≡ Some y
slice_get_at [] y = refl
slice_get_at (x ∷ xs) y = slice_get_at xs y

-- a link up to the old length leads to the same node after a push
pub node_before : {N : Type 0} (xs : List N) (y : N) (i : ℕ) → i ≤ length xs → node_at (xs ++ y ∷ []) i ≡ node_at xs i
node_before xs y zero le = refl
node_before xs y (suc i) le = slice_get_before xs (y ∷ []) i le

pub node_pushed : {N : Type 0} (xs : List N) (y : N) → node_at (xs ++ y ∷ []) (suc (length xs)) ≡ Some y
node_pushed xs y = slice_get_at xs y

-- so does the link that is one more than the old length
pub node_last : {N : Type 0} (xs : List N) (y : N) (at : ℕ) → at ≡ length xs + 1 → node_at (xs ++ y ∷ []) at ≡ Some y
node_last xs y at e = let e2 : suc (length xs) ≡ at = omega arith in subst (λ k. node_at (xs ++ y ∷ []) k ≡ Some y) e2 (node_pushed xs y)

pub node_within : {N : Type 0} (xs : List N) (i : ℕ) (n : N) → node_at xs i ≡ Some n → i ≤ length xs
node_within xs zero n e = omega arith
node_within xs (suc i) n e = slice_get_within xs i n e

pub later_push : {N : Type 0} (xs : List N) (y : N) → Later xs (xs ++ y ∷ [])
later_push xs y i n e = node_before xs y i (node_within xs i n e) ∙ e

get_cases : {N : Type 0} (xs : List N) (y : N) (i : ℕ) (n : N) → slice_get (xs ++ y ∷ []) i ≡ Some n
    → ((i < length xs) × (slice_get xs i ≡ Some n)) ⊎ ((i ≡ length xs) × (n ≡ y))
get_cases [] y zero n e = inr (refl, cc)
get_cases [] y (suc i) n e = cc
get_cases (x ∷ xs) y zero n e = inl (omega arith, e)
get_cases (x ∷ xs) y (suc i) n e = elim (get_cases xs y i n e) [ inl h ↦ inl (omega arith, h.1) | inr h ↦ inr (ap suc h.0, h.1) ]

-- the node of a link after a push is an old one or the pushed one
pub node_cases : {N : Type 0} (xs : List N) (y : N) (i : ℕ) (n : N) → node_at (xs ++ y ∷ []) i ≡ Some n
    → ((i ≤ length xs) × (node_at xs i ≡ Some n)) ⊎ ((i ≡ suc (length xs)) × (n ≡ y))
node_cases xs y zero n e = absurd (none_or_some e)
  where
    none_or_some : {N : Type 0} {n : N} → None ≡ Some n → ⊥
    none_or_some e = cc
node_cases xs y (suc i) n e = elim (get_cases xs y i n e) [ inl h ↦ inl (h.0, h.1) | inr h ↦ inr (ap suc h.0, h.1) ]

-- a node that a link of the earlier list has in the later one stood there before
earlier : {N : Type 0} (xs ys : List N) (i : ℕ) (n : N) → Later xs ys → i ≤ length xs → node_at ys i ≡ Some n → node_at xs i ≡ Some n
earlier xs ys zero n later le e = e
earlier xs ys (suc i) n later le e =
    elim (slice_get_cases xs i).1 [
      | inl h ↦ h.2 ∙ sym (later (suc i) h.0 h.2) ∙ e
      | inr h ↦ absurd (omega arith)
    ]

-- without items nothing is pushed
pub grown_none : {N M T : Type 0} (j : Joining M) (l : Links N) (w : N → M) (pre : T → Network) (v : T → M) (home : ℕ) (xs : List N) (levels : ℕ) (items : List T) → length items ≡ 0
    → Grown j l w pre v home xs xs 0 levels items
grown_none j l w pre v home xs levels [] e = record {
  later = later_refl xs;
  holds = record { found = λ ys later fuel a le. walk_none j l w ys fuel a };
  few = omega arith;
  grows = omega arith;
  top = λ less. absurd (omega arith);
  none = λ e. refl;
  known = omega arith;
  root = λ n e. cc;
  nested = λ h. h;
}
grown_none j l w pre v home xs levels (x ∷ items) e = absurd (omega arith)

-- what holds the items of a half alone holds those of the block, where they are the same
pub grown_passed : {N M T : Type 0} (j : Joining M) (l : Links N) (w : N → M) (pre : T → Network) (v : T → M) (home : ℕ) (old new : List N) (at levels level : ℕ) (items : List T) → levels ≡ level + 1
    → Grown j l w pre v home old new at level items → Grown j l w pre v home old new at levels items
grown_passed j l w pre v home old new at levels level items e g = record {
  later = g.later;
  holds = record { found = λ ys later fuel a le. g.holds.found ys later fuel a (omega arith) };
  few = g.few;
  grows = g.grows;
  top = g.top;
  none = g.none;
  known = g.known;
  root = λ n found. raised (l.prefix_of n) (g.root n found);
  nested = g.nested;
}
  where
    raised : (p : Network) → IsWithin level home p → IsWithin levels home p
    raised p h = record {
      below = omega (arith, h.below);
      inside = same_above (level - 1) (levels - 1) p.addr.0 home (omega arith) h.inside;
    }

-- the home of a half lies in the block
half_home : {T : Type 0} (pre : T → Network) (half : T → Bool) (levels level home : ℕ) (items : List T) → levels ≡ level + 1
    → All (λ x. IsWithin levels home (pre x)) items → 0 < length (filter half items)
    → home_of pre (filter half items) / 2 ^ level ≡ home / 2 ^ level
half_home {T} pre half levels level home items e all some = first (filter half items) (All-filter half (λ x. IsWithin levels home (pre x)) items all) some
  where
    first : (ys : List T) → All (λ x. IsWithin levels home (pre x)) ys → 0 < length ys → home_of pre ys / 2 ^ level ≡ home / 2 ^ level
    first [] within some = absurd (omega arith)
    first (y ∷ ys) within some = (inside_at levels level home (pre y) e (within 0 y (omega arith))).1

-- a prefix within a half of a node's block lies strictly within the node's prefix
inner_half : (level home half : ℕ) (p q : Network) → height p ≡ level → p.addr.0 / 2 ^ level ≡ home / 2 ^ level → half / 2 ^ level ≡ home / 2 ^ level → IsWithin level half q → IsInner p q
inner_half level home half p q hp ep eh w = record {
  longer = omega (arith, w.below);
  within = rw hp (eq-eqb _ _ (ep ∙ sym eh ∙ sym (same_above (level - 1) level q.addr.0 half (omega arith) w.inside)));
}

-- an old node's children stay where they are
nested_before : {N : Type 0} (l : Links N) (xs : List N) (y : N) (i : ℕ) (n : N) → i ≤ length xs → IsNestedAt l xs i n → IsNestedAt l (xs ++ y ∷ []) i n
nested_before l xs y i n le h = record {
  left_before = h.left_before;
  right_before = h.right_before;
  left_inner = λ m found. h.left_inner m (sym (node_before xs y (l.left_of n) (omega (arith, h.left_before))) ∙ found);
  right_inner = λ m found. h.right_inner m (sym (node_before xs y (l.right_of n) (omega (arith, h.right_before))) ∙ found);
}

-- a node over both halves of a block
pub grown_node : {N M T : Type 0} (j : Joining M) → Laws j → (l : Links N) (w : N → M) (pre : T → Network) (v : T → M) (levels level : ℕ) (items : List T)
    (old mid last new : List N) (left right at : ℕ) (n : N)
    → levels ≡ level + 1 → All (λ x. IsWithin levels (home_of pre items) (pre x)) items → 0 < length items
    → one_half pre level items ≡ false
    → Grown j l w pre v (home_of pre (filter (λ x. is_low level (pre x)) items)) old mid left level (filter (λ x. is_low level (pre x)) items)
    → Grown j l w pre v (home_of pre (filter (λ x. is_high level (pre x)) items)) mid last right level (filter (λ x. is_high level (pre x)) items)
    → new ≡ last ++ n ∷ [] → at ≡ length new
    → height (l.prefix_of n) ≡ level → (l.prefix_of n).addr.0 / 2 ^ level ≡ home_of pre items / 2 ^ level
    → l.left_of n ≡ left → l.right_of n ≡ right
    → w n ≡ sum_over j v (filter (λ x. is_here level (pre x)) items)
    → Grown j l w pre v (home_of pre items) old new at levels items
grown_node {N} {M} {T} j laws l w pre v levels level items old mid last new left right at n e all some mixed low high pushed place hn en el er ew = record {
  later = later_next old mid new low.later (later_next mid last new high.later from_last);
  holds = record { found = λ ys later fuel a le. found ys later fuel a le };
  few = omega (arith, long, low.few, high.few, filter_shorter (λ x. is_low level (pre x)) items (or_parts _ _ mixed).0, filter_shorter (λ x. is_high level (pre x)) items (or_parts _ _ mixed).1, parts_length pre level items);
  grows = omega (arith, long, low.grows, high.grows);
  top = λ less. place;
  none = λ nothing. absurd (omega arith);
  known = omega arith;
  root = λ m here. subst (λ x. IsWithin levels home (l.prefix_of x)) (the_node m here) own;
  nested = λ h. nests (high.nested (low.nested h));
}
  where
    home : ℕ
    home = home_of pre items

    long : length new ≡ length last + 1
    long = ap length pushed ∙ length-append last (n ∷ [])

    from_last : Later last new
    from_last = subst (λ ys. Later last ys) (sym pushed) (later_push last n)

    stands : node_at new at ≡ Some n
    stands = subst (λ ys. node_at ys at ≡ Some n) (sym pushed) (node_last last n at (place ∙ long))

    the_node : (m : N) → node_at new at ≡ Some m → n ≡ m
    the_node m here = same_some (sym stands ∙ here)

    own : IsWithin levels home (l.prefix_of n)
    own = record { below = omega arith; inside = let at_level : levels - 1 ≡ level = omega arith in rw at_level en }

    in_half : (ys : List N) → Later new ys → (fuel a : ℕ) → level ≤ fuel → (b : Bool)
        → walk j l w ys fuel (cond b (l.right_of n) (l.left_of n)) a ≡ cond b (total j pre v (filter (λ x. is_high level (pre x)) items) a) (total j pre v (filter (λ x. is_low level (pre x)) items) a)
    in_half ys later fuel a le true = rw er (high.holds.found ys (later_next last new ys from_last later) fuel a le)
    in_half ys later fuel a le false = rw el (low.holds.found ys (later_next mid new ys (later_next mid last new high.later from_last) later) fuel a le)

    found : (ys : List N) → Later new ys → (fuel a : ℕ) → levels ≤ fuel → walk j l w ys fuel at a ≡ total j pre v items a
    found ys later zero a le = absurd (omega arith)
    found ys later (suc fuel) a le = elim (cases_Bool (covers_number (l.prefix_of n) a)) [
      | inl cov ↦
          let block : home / 2 ^ level ≡ a / 2 ^ level = sym en ∙ (rw hn at (eqb-true _ _ cov)) in
          walk_over j l w ys fuel at a n (later at n stands) cov
          ∙ ap (λ x. j.op x (walk j l w ys fuel (child l n a) a)) ew
          ∙ ap (λ x. j.op (sum_over j v (filter (λ x. is_here level (pre x)) items)) x) (rw hn (in_half ys later fuel a (omega arith) (bit_below level a)))
          ∙ sym (split j laws pre v levels level home a items e all block)
      | inr out ↦
          walk_stop j l w ys fuel at a n (later at n stands) out
          ∙ sym (outside j laws pre v levels level home a items e all (rw (hn, en) at out))
    ]

    to_mid : Later mid new
    to_mid = later_next mid last new high.later from_last

    child_inner : (half : T → Bool) (before after : List N) (link : ℕ) (m : N) → Grown j l w pre v (home_of pre (filter half items)) before after link level (filter half items)
        → Later after new → node_at new link ≡ Some m → IsInner (l.prefix_of n) (l.prefix_of m)
    child_inner half before after link m g later here =
        inner_half level home (home_of pre (filter half items)) (l.prefix_of n) (l.prefix_of m) hn en
        (half_home pre half levels level home items e all (some_items (length (filter half items)) link g.none here))
        (g.root m (earlier after new link m later g.known here))
      where
        some_items : (count link : ℕ) → (count ≡ 0 → link ≡ 0) → node_at new link ≡ Some m → 0 < count
        some_items zero link none here = absurd (no_node link (none refl) here)
          where
            no_node : (link : ℕ) → link ≡ 0 → node_at new link ≡ Some m → ⊥
            no_node zero e here = cc
            no_node (suc i) e here = omega arith
        some_items (suc count) link none here = omega arith

    nests : IsNested l last → IsNested l new
    nests h i m here = elim (node_cases last n i m (subst (λ ys. node_at ys i ≡ Some m) pushed here)) [
      | inl old_node ↦ subst (λ ys. IsNestedAt l ys i m) (sym pushed) (nested_before l last n i m old_node.0 (h i m old_node.1))
      | inr own_node ↦ subst (λ x. IsNestedAt l new i x) (sym own_node.1) (record {
        left_before = omega (arith, el, low.known, high.grows, own_node.0);
        right_before = omega (arith, er, high.known, own_node.0);
        left_inner = λ m' found. child_inner (λ x. is_low level (pre x)) old mid left m' low to_mid (rw el at found);
        right_inner = λ m' found. child_inner (λ x. is_high level (pre x)) mid last right m' high from_last (rw er at found);
      })
    ]

-- the whole trie: from no nodes, over all addresses
pub root_finds : {N M T : Type 0} (j : Joining M) (l : Links N) (w : N → M) (pre : T → Network) (v : T → M) (home : ℕ) (new : List N) (at : ℕ) (items : List T)
    → Grown j l w pre v home [] new at 33 items → (a : ℕ) → walk j l w new 33 (length new) a ≡ total j pre v items a
root_finds j l w pre v home new at items g a =
    let place : at ≡ length new = whole_place (length items) (omega (arith, g.few)) g.top g.none in
    rw (← place) (g.holds.found new (later_refl new) 33 a (omega arith))
  where
    whole_place : (count : ℕ) → length new ≤ 2 * count - 1 → (0 < count → at ≡ length new) → (count ≡ 0 → at ≡ 0) → at ≡ length new
    whole_place zero few top none = let e : at ≡ 0 = none refl in omega arith
    whole_place (suc count) few top none = top (omega arith)

pub nested_none : {N : Type 0} (l : Links N) → IsNested l []
nested_none l zero n e = cc
nested_none l (suc i) n e = cc
