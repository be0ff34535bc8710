-- The two parts of a region at a cut, and what meets and contains them.
use Rattle.std.proofs.Common.{◌≡◌, ℕ, zero, suc, ◌+◌, ◌-◌, ◌<◌, ◌≤◌, Bool, true, false, ◌&&◌, nat_le, nat_lt, List, [], ◌∷◌, get_or, length, drop, refl, ap, arith}
use Rattle.std.proofs.Math.ListN.{set}
use Rattle.std.proofs.lemmas.Bool.{and_parts, and_from, leb-true, ltb-true}
use Rattle.std.proofs.lemmas.Bool.Decides.{nat_tests}
use Rattle.asa_shadow.specs.declared.region.Span.{Span}
use Rattle.asa_shadow.specs.declared.region.Cut.{Cut}
use Rattle.asa_shadow.specs.Regions.{span, has, overlap, surrounds, is_part, holds, meets, contains, are_parts, is_region, everything, span_in, is_inside, lower, upper}

abbrev at_place : List Span → ℕ → Span
at_place r k = get_or r k (span 0 0)

-- what it is for a cut to lie inside
pub record Inside (r : List Span) (k at : ℕ) : Type 0 where
  pub below : (get_or r k (span 0 0)).low ≤ at
  pub above : at < (get_or r k (span 0 0)).high

pub inside_parts : (r : List Span) (c : Cut) → is_inside r c ≡ true → Inside r (c.dim - 1) c.at
inside_parts r c is =
    let outer = and_parts (nat_lt 0 c.dim && nat_lt (c.dim - 1) 7 && nat_le (span_in r c.dim).low c.at) (nat_lt c.at (span_in r c.dim).high) is in
    let inner = and_parts (nat_lt 0 c.dim && nat_lt (c.dim - 1) 7) (nat_le (span_in r c.dim).low c.at) outer.0 in
    record { below = leb-true (span_in r c.dim).low c.at inner.1; above = ltb-true c.at (span_in r c.dim).high outer.1 }

part_lower : (w s : Span) (at : ℕ) → is_part w s ≡ true → s.low ≤ at → at < s.high → is_part w (span s.low at) ≡ true
part_lower w s at is low high = grind (arith, nat_tests)

part_upper : (w s : Span) (at : ℕ) → is_part w s ≡ true → s.low ≤ at → at < s.high → is_part w (span (at + 1) s.high) ≡ true
part_upper w s at is low high = grind (arith, nat_tests)

parts_lower : (ws ss : List Span) (k at : ℕ) → are_parts ws ss ≡ true → (at_place ss k).low ≤ at → at < (at_place ss k).high
    → are_parts ws (set ss k (span (at_place ss k).low at)) ≡ true
parts_lower [] [] k at is low high = refl
parts_lower [] (s ∷ ss) k at is low high = absurd (cc)
parts_lower (w ∷ ws) [] k at is low high = absurd (cc)
parts_lower (w ∷ ws) (s ∷ ss) zero at is low high =
    let p = and_parts (is_part w s) (are_parts ws ss) is in and_from _ _ (part_lower w s at p.0 low high) p.1
parts_lower (w ∷ ws) (s ∷ ss) (suc k) at is low high =
    let p = and_parts (is_part w s) (are_parts ws ss) is in and_from _ _ p.0 (parts_lower ws ss k at p.1 low high)

parts_upper : (ws ss : List Span) (k at : ℕ) → are_parts ws ss ≡ true → (at_place ss k).low ≤ at → at < (at_place ss k).high
    → are_parts ws (set ss k (span (at + 1) (at_place ss k).high)) ≡ true
parts_upper [] [] k at is low high = refl
parts_upper [] (s ∷ ss) k at is low high = absurd (cc)
parts_upper (w ∷ ws) [] k at is low high = absurd (cc)
parts_upper (w ∷ ws) (s ∷ ss) zero at is low high =
    let p = and_parts (is_part w s) (are_parts ws ss) is in and_from _ _ (part_upper w s at p.0 low high) p.1
parts_upper (w ∷ ws) (s ∷ ss) (suc k) at is low high =
    let p = and_parts (is_part w s) (are_parts ws ss) is in and_from _ _ p.0 (parts_upper ws ss k at p.1 low high)

-- the parts at a cut inside a region are regions
pub region_lower : (r : List Span) (c : Cut) → is_region r ≡ true → is_inside r c ≡ true → is_region (lower r c) ≡ true
region_lower r c is inside = let i = inside_parts r c inside in parts_lower everything r (c.dim - 1) c.at is i.below i.above

pub region_upper : (r : List Span) (c : Cut) → is_region r ≡ true → is_inside r c ≡ true → is_region (upper r c) ≡ true
region_upper r c is inside = let i = inside_parts r c inside in parts_upper everything r (c.dim - 1) c.at is i.below i.above

-- a point of a region is in one of the two parts
pub holds_lower : (r : List Span) (x : List ℕ) (k at : ℕ) → holds r x ≡ true → get_or x k 0 ≤ at → holds (set r k (span (at_place r k).low at)) x ≡ true
holds_lower [] x k at in_r low = in_r
holds_lower (s ∷ ss) [] k at in_r low = absurd (cc)
holds_lower (s ∷ ss) (n ∷ ns) zero at in_r low =
    let p = and_parts (has s n) (holds ss ns) in_r in and_from _ _ (below s n at p.0 low) p.1
  where
    below : (s : Span) (n at : ℕ) → has s n ≡ true → n ≤ at → has (span s.low at) n ≡ true
    below s n at is le = grind (arith, nat_tests)
holds_lower (s ∷ ss) (n ∷ ns) (suc k) at in_r low =
    let p = and_parts (has s n) (holds ss ns) in_r in and_from _ _ p.0 (holds_lower ss ns k at p.1 low)

pub holds_upper : (r : List Span) (x : List ℕ) (k at : ℕ) → holds r x ≡ true → at < get_or x k 0 → holds (set r k (span (at + 1) (at_place r k).high)) x ≡ true
holds_upper [] x k at in_r low = in_r
holds_upper (s ∷ ss) [] k at in_r low = absurd (cc)
holds_upper (s ∷ ss) (n ∷ ns) zero at in_r low =
    let p = and_parts (has s n) (holds ss ns) in_r in and_from _ _ (above s n at p.0 low) p.1
  where
    above : (s : Span) (n at : ℕ) → has s n ≡ true → at < n → has (span (at + 1) s.high) n ≡ true
    above s n at is le = grind (arith, nat_tests)
holds_upper (s ∷ ss) (n ∷ ns) (suc k) at in_r low =
    let p = and_parts (has s n) (holds ss ns) in_r in and_from _ _ p.0 (holds_upper ss ns k at p.1 low)

-- a region has the points of a region that it contains
pub contains_holds : (r s : List Span) (x : List ℕ) → contains r s ≡ true → holds s x ≡ true → holds r x ≡ true
contains_holds [] [] x c h = h
contains_holds [] (t ∷ ts) x c h = absurd (cc)
contains_holds (s ∷ ss) [] x c h = absurd (cc)
contains_holds (s ∷ ss) (t ∷ ts) [] c h = absurd (cc)
contains_holds (s ∷ ss) (t ∷ ts) (n ∷ ns) c h =
    let p = and_parts (surrounds s t) (contains ss ts) c in
    let q = and_parts (has t n) (holds ts ns) h in
    and_from _ _ (within s t n p.0 q.0) (contains_holds ss ts ns p.1 q.1)
  where
    within : (s t : Span) (n : ℕ) → surrounds s t ≡ true → has t n ≡ true → has s n ≡ true
    within s t n is at = grind (arith, nat_tests)

-- a region has seven dimensions
parts_length : (ws ss : List Span) → are_parts ws ss ≡ true → length ss ≡ length ws
parts_length [] [] is = refl
parts_length [] (s ∷ ss) is = absurd (cc)
parts_length (w ∷ ws) [] is = absurd (cc)
parts_length (w ∷ ws) (s ∷ ss) is = ap suc (parts_length ws ss (and_parts (is_part w s) (are_parts ws ss) is).1)

pub region_length : (r : List Span) → is_region r ≡ true → length r ≡ 7
region_length r is = parts_length everything r is

-- nothing is left of regions after seven dimensions
none_left : (r : List Span) (i : ℕ) → is_region r ≡ true → 7 ≤ i → drop i r ≡ []
none_left r i is all = let e = region_length r is in drop_all r i (omega arith)
  where
    drop_all : (ss : List Span) (i : ℕ) → length ss ≤ i → drop i ss ≡ []
    drop_all [] zero le = refl
    drop_all [] (suc i) le = refl
    drop_all (s ∷ ss) zero le = absurd (omega arith)
    drop_all (s ∷ ss) (suc i) le = drop_all ss i (omega arith)

pub meets_end : (r s : List Span) (i : ℕ) → is_region r ≡ true → is_region s ≡ true → 7 ≤ i → meets (drop i r) (drop i s) ≡ true
meets_end r s i is_r is_s all = rw (none_left r i is_r all, none_left s i is_s all) refl

pub contains_end : (r s : List Span) (i : ℕ) → is_region r ≡ true → is_region s ≡ true → 7 ≤ i → contains (drop i r) (drop i s) ≡ true
contains_end r s i is_r is_s all = rw (none_left r i is_r all, none_left s i is_s all) refl

-- the least number of a region in a dimension is one that there is
parts_fit : (ws ss : List Span) (k : ℕ) → are_parts ws ss ≡ true → k < length ws → (at_place ss k).low ≤ (at_place ws k).high
parts_fit [] ss k is less = absurd (omega arith)
parts_fit (w ∷ ws) [] k is less = absurd (cc)
parts_fit (w ∷ ws) (s ∷ ss) zero is less = fit w s (and_parts (is_part w s) (are_parts ws ss) is).0
  where
    fit : (w s : Span) → is_part w s ≡ true → s.low ≤ w.high
    fit w s is = grind (arith, nat_tests)
parts_fit (w ∷ ws) (s ∷ ss) (suc k) is less = parts_fit ws ss k (and_parts (is_part w s) (are_parts ws ss) is).1 (omega arith)

pub least_fits : (r : List Span) (dim : ℕ) → is_region r ≡ true → dim ≤ 7 → 1 ≤ dim → (span_in r dim).low ≤ (span_in everything dim).high
least_fits r dim is most least = parts_fit everything r (dim - 1) is (omega arith)

-- no region is without dimensions
pub none_meets : (r : List Span) → is_region r ≡ true → meets [] r ≡ false
none_meets [] is = absurd (cc)
none_meets (s ∷ ss) is = refl
