-- The routes that nodes keep lead to each address as the routes that were compiled.
use Rattle.std.proofs.Common.{◌≡◌, ℕ, ◌+◌, ◌*◌, ◌/◌, ◌%◌, ◌^◌, inl, inr, Bool, true, false, cond, not, ◌&&◌, List, [], ◌∷◌, ◌++◌, length, get_or, All, Option, Some, None, refl, sym, ap, subst, ◌∙◌, arith}
use Rattle.std.specs.Prelude.{filter}
use Rattle.std.specs.Bool.{IsTrue}
use Rattle.std.specs.List.{Contains}
use Rattle.std.specs.Option.{IfSome, option_map, option_to_list}
use Rattle.std.proofs.lemmas.Bool.{eqb-true, leb-true, and_parts}
use Rattle.std.proofs.lemmas.Nat.{div-add-mod'}
use Rattle.std.proofs.lemmas.List.{append_assoc, append-nil}
use Rattle.std.proofs.lemmas.List.Elements.{All-nil, All-cons, All-append, All-filter, All-contains, All-contains_itself, Contains-append_left, Contains-append_right, Contains-append_cases, filter_passes}
use Rattle.asa_text.specs.declared.numbers.Addr.{Addr}
use Rattle.asa_base.specs.Networks.{Network, is_prefix}
use Rattle.asa_trie.specs.Bits.{height, covers_number, bit_below, is_here, is_low, is_high, home_of, IsWithin}
use Rattle.asa_trie.specs.Tries.{sum_over, total}
use Rattle.asa_trie.proofs.BlockLaws.{inside_at}
use Rattle.asa_trie.proofs.SumLaws.{unit_right, sum_filter, sum_same, sum_units}
use Rattle.asa_fib.specs.declared.fib.FibNode.{FibNode}
use Rattle.asa_fib.specs.declared.route.Way.{Way}
use Rattle.asa_fib.specs.Routes.{Route, better, best_of, best_covering, route_of}
use Rattle.asa_fib.specs.Lookup.{ways, own_route, kept, found}
use Rattle.asa_fib.specs.Growth.{prefix_of, value_of, is_whole, FibGrown}
use Rattle.asa_fib.proofs.WayLaws.{better_assoc, better_comm, best_keeps, way_laws, best_is_sum, walk_finds}

-- joined values of two lists, one after the other
sum_append : (v : Route → Option Way) (xs ys : List Route) → sum_over ways v (xs ++ ys) ≡ better (sum_over ways v xs) (sum_over ways v ys)
sum_append v [] ys = refl
sum_append v (x ∷ xs) ys = ap (λ s. better (v x) s) (sum_append v xs ys) ∙ sym (better_assoc (v x) (sum_over ways v xs) (sum_over ways v ys))

-- two values before a third, the other way round
turn : (a b c : Option Way) → better a (better b c) ≡ better b (better a c)
turn a b c = sym (better_assoc a b c) ∙ ap (λ x. better x c) (better_comm a b) ∙ better_assoc b a c

-- a block's routes: those of the block itself, of its lower half and of its upper half
sum_parts : (v : Route → Option Way) (level : ℕ) (rs : List Route) → sum_over ways v rs
    ≡ better (sum_over ways v (filter (λ r. is_here level (prefix_of r)) rs))
    (better (sum_over ways v (filter (λ r. is_low level (prefix_of r)) rs)) (sum_over ways v (filter (λ r. is_high level (prefix_of r)) rs)))
sum_parts v level [] = refl
sum_parts v level (r ∷ rs) = ap (λ s. better (v r) s) (sum_parts v level rs) ∙ one_more (is_here level (prefix_of r)) (bit_below level (prefix_of r).addr.0)
    (filter (λ r. is_here level (prefix_of r)) rs) (filter (λ r. is_low level (prefix_of r)) rs) (filter (λ r. is_high level (prefix_of r)) rs)
  where
    one_more : (here bit : Bool) (hs ls us : List Route) → better (v r) (better (sum_over ways v hs) (better (sum_over ways v ls) (sum_over ways v us)))
        ≡ better (sum_over ways v (cond here (r ∷ hs) hs))
        (better (sum_over ways v (cond (not here && not bit) (r ∷ ls) ls)) (sum_over ways v (cond (not here && bit) (r ∷ us) us)))
    one_more true bit hs ls us = sym (better_assoc (v r) (sum_over ways v hs) (better (sum_over ways v ls) (sum_over ways v us)))
    one_more false false hs ls us =
        turn (v r) (sum_over ways v hs) (better (sum_over ways v ls) (sum_over ways v us))
        ∙ ap (λ x. better (sum_over ways v hs) x) (sym (better_assoc (v r) (sum_over ways v ls) (sum_over ways v us)))
    one_more false true hs ls us =
        turn (v r) (sum_over ways v hs) (better (sum_over ways v ls) (sum_over ways v us))
        ∙ ap (λ x. better (sum_over ways v hs) x) (turn (v r) (sum_over ways v ls) (sum_over ways v us))

-- the best that covers is the joined value of those that cover
pub covering_is_total : (rs : List Route) (a : Addr) → best_covering rs a ≡ total ways prefix_of value_of rs a.0
covering_is_total rs a =
    best_is_sum (filter (λ r. covers_number (prefix_of r) a.0) rs) ∙ sum_filter ways way_laws (λ r. covers_number (prefix_of r) a.0) value_of rs

-- the routes of one prefix cover an address together
total_together : (a : ℕ) (b : Bool) (rs : List Route) → All (λ r. covers_number (prefix_of r) a ≡ b) rs
    → total ways prefix_of value_of rs a ≡ cond b (sum_over ways value_of rs) None
total_together a b rs all =
    sum_same ways (λ r. cond (covers_number (prefix_of r) a) (value_of r) None) (λ r. cond b (value_of r) None) rs
    (λ k d less. ap (λ x. cond x (value_of (get_or rs k d)) None) (all k d less))
    ∙ by_cases b
  where
    by_cases : (b : Bool) → sum_over ways (λ r. cond b (value_of r) None) rs ≡ cond b (sum_over ways value_of rs) None
    by_cases true = refl
    by_cases false = sum_units ways way_laws rs

-- two prefixes at which the same block begins are one
same_prefix : (p q : Network) → IsTrue (is_prefix p.addr.0 p.len) → IsTrue (is_prefix q.addr.0 q.len) → height p ≡ height q
    → p.addr.0 / 2 ^ height q ≡ q.addr.0 / 2 ^ height q → p ≡ q
same_prefix p q whole_p whole_q h e =
    let parts_p = and_parts _ _ whole_p in
    let parts_q = and_parts _ _ whole_q in
    let len : p.len ≡ q.len = omega (arith, leb-true p.len 32 parts_p.0, leb-true q.len 32 parts_q.0, h) in
    let none_p : p.addr.0 % 2 ^ height q ≡ 0 = rw h at (eqb-true (p.addr.0 % 2 ^ height p) 0 parts_p.1) in
    let none_q : q.addr.0 % 2 ^ height q ≡ 0 = eqb-true (q.addr.0 % 2 ^ height q) 0 parts_q.1 in
    let addr : p.addr.0 ≡ q.addr.0 =
    sym (div-add-mod' p.addr.0 (2 ^ height q))
    ∙ ap (λ x. x * 2 ^ height q + p.addr.0 % 2 ^ height q) e
    ∙ ap (λ x. q.addr.0 / 2 ^ height q * 2 ^ height q + x) (none_p ∙ sym none_q)
    ∙ div-add-mod' q.addr.0 (2 ^ height q) in
    λ i. record { addr = record { 0 = addr i }; len = len i }

-- the routes of just a block have its prefix
pub heres_same : (levels level home : ℕ) (p : Network) (rs : List Route) → levels ≡ level + 1
    → All (λ r. IsWithin levels home (prefix_of r)) rs → All (λ r. IsTrue (is_whole r)) rs
    → height p ≡ level → p.addr.0 / 2 ^ level ≡ home / 2 ^ level → IsTrue (is_prefix p.addr.0 p.len)
    → All (λ r. prefix_of r ≡ p) (filter (λ r. is_here level (prefix_of r)) rs)
heres_same levels level home p rs e within whole hp ep whole_p =
    against (filter (λ r. is_here level (prefix_of r)) rs)
    (All-filter (λ r. is_here level (prefix_of r)) (λ r. IsWithin levels home (prefix_of r)) rs within)
    (All-filter (λ r. is_here level (prefix_of r)) (λ r. IsTrue (is_whole r)) rs whole)
    (filter_passes (λ r. is_here level (prefix_of r)) rs)
  where
    against : (hs : List Route) → All (λ r. IsWithin levels home (prefix_of r)) hs → All (λ r. IsTrue (is_whole r)) hs
        → All (λ r. is_here level (prefix_of r) ≡ true) hs → All (λ r. prefix_of r ≡ p) hs
    against hs within whole here k d less =
        let r : Route = get_or hs k d in
        let w = inside_at levels level home (prefix_of r) e (within k d less) in
        let hr : height (prefix_of r) ≡ level = eqb-true (height (prefix_of r)) level (here k d less) in
        same_prefix (prefix_of r) p (whole k d less) whole_p (hr ∙ sym hp) (rw hp (w.1 ∙ sym ep))

-- a node's own route is worth its best way where its prefix covers the address
own_total : (n : FibNode) (a : ℕ) → IfSome n.best (λ w. w.len ≡ n.prefix.len)
    → total ways prefix_of value_of (option_to_list (own_route n)) a ≡ cond (covers_number n.prefix a) n.best None
own_total n a len = of_best n.best len (covers_number n.prefix a) refl
  where
    of_best : (best : Option Way) → IfSome best (λ w. w.len ≡ n.prefix.len) → (b : Bool) → covers_number n.prefix a ≡ b
        → total ways prefix_of value_of (option_to_list (option_map (λ w. (n.prefix, w.distance, w.number)) best)) a ≡ cond b best None
    of_best None len true e = refl
    of_best None len false e = refl
    of_best (Some w) len true e = rw e (ap (λ x. Some x) (λ i. record { len = sym len i; distance = w.distance; number = w.number }))
    of_best (Some w) len false e = rw e refl

-- the last node's route comes last
kept_push : (ns : List FibNode) (n : FibNode) → kept (ns ++ n ∷ []) ≡ kept ns ++ option_to_list (own_route n)
kept_push [] n = append-nil (option_to_list (own_route n))
kept_push (m ∷ ns) n =
    ap (λ rs. option_to_list (own_route m) ++ rs) (kept_push ns n) ∙ sym (append_assoc (option_to_list (own_route m)) (kept ns) (option_to_list (own_route n)))

-- a node over both halves of a block adds the best of the block's own routes
total_node : (level a : ℕ) (routes : List Route) (last : List FibNode) (n : FibNode) (old : Option Way)
    → All (λ r. prefix_of r ≡ n.prefix) (filter (λ r. is_here level (prefix_of r)) routes) → n.best ≡ best_of (filter (λ r. is_here level (prefix_of r)) routes)
    → total ways prefix_of value_of (kept last) a
    ≡ better (better old (total ways prefix_of value_of (filter (λ r. is_low level (prefix_of r)) routes) a))
    (total ways prefix_of value_of (filter (λ r. is_high level (prefix_of r)) routes) a)
    → total ways prefix_of value_of (kept (last ++ n ∷ [])) a ≡ better old (total ways prefix_of value_of routes a)
total_node level a routes last n old same best halves =
    ap (λ rs. total ways prefix_of value_of rs a) (kept_push last n)
    ∙ sum_append value (kept last) (option_to_list (own_route n))
    ∙ ap (λ x. better x (sum_over ways value (option_to_list (own_route n)))) halves
    ∙ ap (λ x. better (better (better old lows) highs) x) own
    ∙ order old lows highs heres
    ∙ ap (λ x. better old x) (sym (sum_parts value level routes))
  where
    value : Route → Option Way
    value r = cond (covers_number (prefix_of r) a) (value_of r) None

    heres : Option Way
    heres = total ways prefix_of value_of (filter (λ r. is_here level (prefix_of r)) routes) a

    lows : Option Way
    lows = total ways prefix_of value_of (filter (λ r. is_low level (prefix_of r)) routes) a

    highs : Option Way
    highs = total ways prefix_of value_of (filter (λ r. is_high level (prefix_of r)) routes) a

    own : sum_over ways value (option_to_list (own_route n)) ≡ heres
    own =
        own_total n a (subst (λ b. IfSome b (λ w. w.len ≡ n.prefix.len)) (sym best)
        (best_keeps (λ w. w.len ≡ n.prefix.len) (filter (λ r. is_here level (prefix_of r)) routes) (λ k d less. ap (λ p. p.len) (same k d less))))
        ∙ ap (λ x. cond (covers_number n.prefix a) x None) (best ∙ best_is_sum (filter (λ r. is_here level (prefix_of r)) routes))
        ∙ sym (total_together a (covers_number n.prefix a) (filter (λ r. is_here level (prefix_of r)) routes)
        (λ k d less. ap (λ p. covers_number p a) (same k d less)))

    order : (o l u h : Option Way) → better (better (better o l) u) h ≡ better o (better h (better l u))
    order o l u h = ap (λ x. better x h) (better_assoc o l u) ∙ better_assoc o (better l u) h ∙ ap (λ x. better o x) (better_comm (better l u) h)

-- so it does in terms of the best routes
pub best_node : (level : ℕ) (routes : List Route) (old mid last new : List FibNode) (n : FibNode)
    → All (λ r. prefix_of r ≡ n.prefix) (filter (λ r. is_here level (prefix_of r)) routes) → n.best ≡ best_of (filter (λ r. is_here level (prefix_of r)) routes)
    → ((a : Addr) → best_covering (kept mid) a ≡ better (best_covering (kept old) a) (best_covering (filter (λ r. is_low level (prefix_of r)) routes) a))
    → ((a : Addr) → best_covering (kept last) a ≡ better (best_covering (kept mid) a) (best_covering (filter (λ r. is_high level (prefix_of r)) routes) a))
    → new ≡ last ++ n ∷ []
    → (a : Addr) → best_covering (kept new) a ≡ better (best_covering (kept old) a) (best_covering routes a)
best_node level routes old mid last new n same best low high pushed a =
    ap (λ ns. best_covering (kept ns) a) pushed
    ∙ covering_is_total (kept (last ++ n ∷ [])) a
    ∙ total_node level a.0 routes last n (best_covering (kept old) a) same best
    (sym (covering_is_total (kept last) a) ∙ high a
    ∙ ap (λ x. better x (best_covering (filter (λ r. is_high level (prefix_of r)) routes) a)) (low a)
    ∙ ap (λ x. better (better (best_covering (kept old) a) x) (best_covering (filter (λ r. is_high level (prefix_of r)) routes) a))
    (covering_is_total (filter (λ r. is_low level (prefix_of r)) routes) a)
    ∙ ap (λ x. better (better (best_covering (kept old) a) (total ways prefix_of value_of (filter (λ r. is_low level (prefix_of r)) routes) a.0)) x)
    (covering_is_total (filter (λ r. is_high level (prefix_of r)) routes) a))
    ∙ ap (λ x. better (best_covering (kept old) a) x) (sym (covering_is_total routes a))

-- no routes add nothing
pub best_none : (ns : List FibNode) (routes : List Route) → length routes ≡ 0
    → (a : Addr) → best_covering (kept ns) a ≡ better (best_covering (kept ns) a) (best_covering routes a)
best_none ns [] e a = sym (unit_right ways way_laws (best_covering (kept ns) a))
best_none ns (r ∷ routes) e a = absurd (omega arith)

-- every route that is kept is a given one
pub given_none : (ns : List FibNode) (routes : List Route) → All (Contains (kept ns ++ routes)) (kept ns)
given_none ns routes = λ k d less. Contains-append_left (kept ns) routes (get_or (kept ns) k d) (All-contains_itself (kept ns) k d less)

pub given_node : (level : ℕ) (routes : List Route) (old mid last new : List FibNode) (n : FibNode)
    → All (λ r. prefix_of r ≡ n.prefix) (filter (λ r. is_here level (prefix_of r)) routes) → n.best ≡ best_of (filter (λ r. is_here level (prefix_of r)) routes)
    → All (Contains (kept old ++ filter (λ r. is_low level (prefix_of r)) routes)) (kept mid)
    → All (Contains (kept mid ++ filter (λ r. is_high level (prefix_of r)) routes)) (kept last)
    → new ≡ last ++ n ∷ [] → All (Contains (kept old ++ routes)) (kept new)
given_node level routes old mid last new n same best low high pushed =
    subst (λ rs. All (Contains (kept old ++ routes)) rs) (sym (ap kept pushed ∙ kept_push last n))
    (All-append (Contains (kept old ++ routes)) (kept last) (option_to_list (own_route n)) of_last (of_best n.best (subst (λ b. IfSome b IsOwn) (sym best) own)))
  where
    IsOwn : Way → Type 0
    IsOwn w = Contains routes (n.prefix, w.distance, w.number)

    passes : (p : Route → Bool) → All (Contains routes) (filter p routes)
    passes p = All-filter p (Contains routes) routes (All-contains_itself routes)

    either : (p : Route → Bool) (before : List Route) (r : Route) → ((x : Route) → Contains before x → Contains (kept old ++ routes) x)
        → Contains (before ++ filter p routes) r → Contains (kept old ++ routes) r
    either p before r stays h = elim (Contains-append_cases before (filter p routes) r h) [
      | inl b ↦ stays r b
      | inr f ↦ Contains-append_right (kept old) routes r (All-contains (Contains routes) (filter p routes) r (passes p) f)
    ]

    of_mid : (r : Route) → Contains (kept mid) r → Contains (kept old ++ routes) r
    of_mid r h = either (λ x. is_low level (prefix_of x)) (kept old) r (λ x b. Contains-append_left (kept old) routes x b)
        (All-contains (Contains (kept old ++ filter (λ x. is_low level (prefix_of x)) routes)) (kept mid) r low h)

    of_last : All (Contains (kept old ++ routes)) (kept last)
    of_last k d less = either (λ x. is_high level (prefix_of x)) (kept mid) (get_or (kept last) k d) of_mid (high k d less)

    own : IfSome (best_of (filter (λ r. is_here level (prefix_of r)) routes)) IsOwn
    own = best_keeps IsOwn (filter (λ r. is_here level (prefix_of r)) routes) (λ k d less.
        let r : Route = get_or (filter (λ r. is_here level (prefix_of r)) routes) k d in
        subst (λ p. Contains routes (p, r.1, r.2)) (same k d less) (passes (λ r. is_here level (prefix_of r)) k d less))

    of_best : (o : Option Way) → IfSome o IsOwn → All (Contains (kept old ++ routes)) (option_to_list (option_map (λ w. (n.prefix, w.distance, w.number)) o))
    of_best None h = All-nil (Contains (kept old ++ routes))
    of_best (Some w) h = All-cons (Contains (kept old ++ routes)) (n.prefix, w.distance, w.number) []
        (Contains-append_right (kept old) routes (n.prefix, w.distance, w.number) h) (All-nil (Contains (kept old ++ routes)))

-- what is built keeps as good a route to each address as the routes are
pub built_routes : (at : ℕ) (nodes : List FibNode) (routes : List Route) → FibGrown [] nodes at 33 routes → (a : Addr) → route_of (kept nodes) a ≡ route_of routes a
built_routes at nodes routes g a = ap (option_map (λ w. w.number)) (g.best a)

-- and a walk finds the best of what it keeps
pub built_finds : (at : ℕ) (nodes : List FibNode) (routes : List Route) → FibGrown [] nodes at 33 routes → (a : Addr) → found nodes a ≡ route_of (kept nodes) a
built_finds at nodes routes g a = walk_finds (home_of prefix_of routes) at nodes routes g.nodes a ∙ sym (built_routes at nodes routes g a)
