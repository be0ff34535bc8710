-- The better of two ways: no matter how they are grouped or ordered.
use Rattle.std.proofs.Common.{◌≡◌, ℕ, ◌<◌, Bool, true, false, cond, ◌+◌, suc, ◌⊎◌, inl, inr, List, [], ◌∷◌, All, length, filter, get_or, drop, Option, Some, None, refl, sym, ap, ◌∙◌, arith, add-one, drop-cons}
use Rattle.std.proofs.lemmas.Bool.Decides.{nat_tests}
use Rattle.std.specs.Option.{IfSome, option_map}
use Rattle.asa_text.specs.declared.numbers.Addr.{Addr}
use Rattle.asa_trie.specs.Bits.{covers_number}
use Rattle.asa_trie.specs.Tries.{Laws, sum_over, Grown}
use Rattle.asa_trie.proofs.SumLaws.{sum_filter}
use Rattle.asa_trie.proofs.TrieLaws.{root_finds}
use Rattle.asa_fib.specs.declared.fib.FibNode.{FibNode}
use Rattle.asa_fib.specs.declared.route.Way.{Way}
use Rattle.asa_fib.specs.Routes.{Route, way_of, beats, better, best_of, route_of}
use Rattle.asa_fib.specs.Lookup.{ways, links, found}
use Rattle.asa_fib.specs.Growth.{prefix_of, value_of}

trans : (a b c : Way) → beats c b ≡ true → beats b a ≡ true → beats c a ≡ true
trans a b c p q = grind (arith, nat_tests)

not_trans : (a b c : Way) → beats c b ≡ false → beats b a ≡ false → beats c a ≡ false
not_trans a b c p q = grind (arith, nat_tests)

not_both : (a b : Way) → beats b a ≡ true → beats a b ≡ true → ⊥
not_both a b p q = grind (arith, nat_tests)

same_parts : (a b : Way) → beats b a ≡ false → beats a b ≡ false → (a.len ≡ b.len) × (a.distance ≡ b.distance) × (a.number ≡ b.number)
same_parts a b p q = (grind (arith, nat_tests), grind (arith, nat_tests), grind (arith, nat_tests))

same_way : (a b : Way) → beats b a ≡ false → beats a b ≡ false → a ≡ b
same_way a b p q = let e = same_parts a b p q in λ i. record { len = e.0 i; distance = e.1 i; number = e.2 i }

pub better_assoc : (a b c : Option Way) → better (better a b) c ≡ better a (better b c)
better_assoc None b c = refl
better_assoc (Some a) None c = refl
better_assoc (Some a) (Some b) None = refl
better_assoc (Some a) (Some b) (Some c) = ap (λ w. Some w) (chosen (beats b a) (beats c b) refl refl)
  where
    chosen : (p q : Bool) → beats b a ≡ p → beats c b ≡ q
        → cond (beats c (cond p b a)) c (cond p b a) ≡ cond (beats (cond q c b) a) (cond q c b) a
    chosen true true ep eq = rw (eq, trans a b c eq ep) refl
    chosen true false ep eq = rw (eq, ep) refl
    chosen false true ep eq = refl
    chosen false false ep eq = rw (ep, not_trans a b c eq ep) refl

pub better_comm : (a b : Option Way) → better a b ≡ better b a
better_comm None None = refl
better_comm None (Some b) = refl
better_comm (Some a) None = refl
better_comm (Some a) (Some b) = ap (λ w. Some w) (chosen (beats b a) (beats a b) refl refl)
  where
    chosen : (p q : Bool) → beats b a ≡ p → beats a b ≡ q → cond p b a ≡ cond q a b
    chosen true true ep eq = absurd (not_both a b ep eq)
    chosen true false ep eq = refl
    chosen false true ep eq = refl
    chosen false false ep eq = same_way a b ep eq

pub way_laws : Laws ways
way_laws = record { assoc = better_assoc; comm = better_comm; unit_left = λ a. refl }

-- the best of a list is its joined value
pub best_is_sum : (rs : List Route) → best_of rs ≡ sum_over ways value_of rs
best_is_sum [] = refl
best_is_sum (r ∷ rs) = ap (λ b. better (Some (way_of r)) b) (best_is_sum rs)

-- what holds of two ways holds of the better one
better_keeps : (P : Way → Type 0) (a b : Option Way) → IfSome a P → IfSome b P → IfSome (better a b) P
better_keeps P None b p q = q
better_keeps P (Some a) None p q = p
better_keeps P (Some a) (Some b) p q = chosen (beats b a)
  where
    chosen : (c : Bool) → P (cond c b a)
    chosen true = q
    chosen false = p

-- and what holds of each route's way holds of the best
pub best_keeps : (P : Way → Type 0) (rs : List Route) → All (λ r. P (way_of r)) rs → IfSome (best_of rs) P
best_keeps P [] all = tt
best_keeps P (r ∷ rs) all = better_keeps P (Some (way_of r)) (best_of rs) (all 0 r (omega arith)) (best_keeps P rs (λ k d less. all (suc k) d (omega arith)))

-- one more route of a list is looked at
pub best_step : (p : Route → Bool) (routes : List Route) (i : ℕ) (x : Route) (b b' : Option Way) → i < length routes → x ≡ get_or routes i x
    → ((p x ≡ true) × (b' ≡ better b (Some (way_of x)))) ⊎ ((p x ≡ false) × (b' ≡ b))
    → better b' (best_of (filter p (drop (i + 1) routes))) ≡ better b (best_of (filter p (drop i routes)))
best_step p routes i x b b' less e step =
    let at : drop i routes ≡ x ∷ drop (i + 1) routes = rw (add-one) (drop-cons routes i x less ∙ ap (λ y. y ∷ drop (suc i) routes) (sym e)) in
    rw at (elim step [
      | inl passed ↦ rw (passed.0, passed.1) (better_assoc b (Some (way_of x)) (best_of (filter p (drop (i + 1) routes))))
      | inr failed ↦ rw (failed.0, failed.1) refl
    ])

-- what a walk over a built trie finds at an address is the best route that covers it
pub walk_finds : (home at : ℕ) (nodes : List FibNode) (routes : List Route) → Grown ways links (λ n. n.best) prefix_of value_of home [] nodes at 33 routes
    → (a : Addr) → found nodes a ≡ route_of routes a
walk_finds home at nodes routes g a = ap (option_map (λ w. w.number)) (
    root_finds ways links (λ n. n.best) prefix_of value_of home nodes at routes g a.0
    ∙ sym (sum_filter ways way_laws (λ r. covers_number (prefix_of r) a.0) value_of routes)
    ∙ sym (best_is_sum (filter (λ r. covers_number (prefix_of r) a.0) routes)))
