-- A cut of a region by a box that meets it lies inside the region; both parts are smaller, and what meets a part meets the region.
use Rattle.std.proofs.Common.{◌≡◌, ℕ, zero, suc, ◌+◌, ◌-◌, ◌<◌, ◌≤◌, Bool, true, false, ◌&&◌, if◌then◌else◌, nat_le, nat_lt, List, [], ◌∷◌, get_or, length, Option, Some, None, refl, sym, ap, subst, ◌∙◌, arith}
use Rattle.std.proofs.Math.ListN.{set}
use Rattle.std.proofs.lemmas.Bool.{and_parts, and_from, ltb-true, ltb-false, leb-true, le-leb, lt-ltb}
use Rattle.std.proofs.lemmas.Bool.Decides.{nat_tests}
use Rattle.asa_shadow.specs.declared.region.Span.{Span}
use Rattle.asa_shadow.specs.declared.region.Cut.{Cut}
use Rattle.asa_shadow.specs.Regions.{span, has, overlap, surrounds, holds, meets, contains, is_region, span_in, is_inside, lower, upper}
use Rattle.asa_shadow.specs.Certificates.{cut_at}
use Rattle.asa_shadow.specs.CutTrees.{cut_from, cut_of, extent}
use Rattle.asa_shadow.proofs.RegionLaws.{Inside, region_length}

-- where a cut lies: a place of the region with numbers on both sides
pub record Placed (rs : List Span) (dim : ℕ) (c : Cut) : Type 0 where
  pub place : ℕ
  pub dim_is : c.dim ≡ dim + place
  pub within : place < length rs
  pub inside : Inside rs place c.at

cut_placed : (dim : ℕ) (bs rs : List Span) (c : Cut) → meets bs rs ≡ true → cut_from dim bs rs ≡ Some c → Placed rs dim c
cut_placed dim [] rs c meet e = absurd (cc)
cut_placed dim (b ∷ bs) [] c meet e = absurd (cc)
cut_placed dim (b ∷ bs) (r ∷ rs) c meet e =
    let p = and_parts (overlap b r) (meets bs rs) meet in
    let q = and_parts (nat_le b.low r.high) (nat_le r.low b.high) p.0 in
    by_tests (nat_lt r.low b.low) (nat_lt b.high r.high) refl refl (leb-true b.low r.high q.0) (leb-true r.low b.high q.1) (cut_placed (dim + 1) bs rs c p.1) e
  where
    by_tests : (t u : Bool) → nat_lt r.low b.low ≡ t → nat_lt b.high r.high ≡ u → b.low ≤ r.high → r.low ≤ b.high
        → (cut_from (dim + 1) bs rs ≡ Some c → Placed rs (dim + 1) c)
        → (if t then Some (cut_at dim (b.low - 1)) else (if u then Some (cut_at dim b.high) else cut_from (dim + 1) bs rs)) ≡ Some c → Placed (r ∷ rs) dim c
    by_tests true u low high from to rest e =
        let same : cut_at dim (b.low - 1) ≡ c = cc in
        let less : r.low < b.low = ltb-true r.low b.low low in
        subst (λ (c : Cut). Placed (r ∷ rs) dim c) same
        (record { place = 0; dim_is = omega arith; within = omega arith; inside = record { below = omega arith; above = omega arith } })
    by_tests false true low high from to rest e =
        let same : cut_at dim b.high ≡ c = cc in
        let less : b.high < r.high = ltb-true b.high r.high high in
        subst (λ (c : Cut). Placed (r ∷ rs) dim c) same
        (record { place = 0; dim_is = omega arith; within = omega arith; inside = record { below = to; above = less } })
    by_tests false false low high from to rest e =
        let later = rest e in
        record {
          place = suc later.place;
          dim_is = omega (arith, later.dim_is);
          within = omega (arith, later.within);
          inside = record { below = later.inside.below; above = later.inside.above };
        }

-- a cut by a box that meets the region lies inside it
pub cut_is_inside : (box r : List Span) (c : Cut) → meets box r ≡ true → cut_of box r ≡ Some c → Inside r (c.dim - 1) c.at
cut_is_inside box r c meet e =
    let p = cut_placed 1 box r c meet e in
    let same : p.place ≡ c.dim - 1 = omega (arith, p.dim_is) in
    subst (λ (k : ℕ). Inside r k c.at) same p.inside

pub cut_inside : (box r : List Span) (c : Cut) → is_region r ≡ true → meets box r ≡ true → cut_of box r ≡ Some c → is_inside r c ≡ true
cut_inside box r c is meet e =
    let p = cut_placed 1 box r c meet e in
    let i = cut_is_inside box r c meet e in
    let seven = region_length r is in
    let a : nat_lt 0 c.dim ≡ true = lt-ltb 0 c.dim (omega (arith, p.dim_is)) in
    let b : nat_lt (c.dim - 1) 7 ≡ true = lt-ltb (c.dim - 1) 7 (omega (arith, p.dim_is, p.within)) in
    let d : nat_le (span_in r c.dim).low c.at ≡ true = le-leb (span_in r c.dim).low c.at i.below in
    let f : nat_lt c.at (span_in r c.dim).high ≡ true = lt-ltb c.at (span_in r c.dim).high i.above in
    and_from _ _ (and_from _ _ (and_from _ _ a b) d) f

-- where no bound of a box crosses a region that the box meets, the box contains the region
pub uncut_contains : (dim : ℕ) (bs rs : List Span) → meets bs rs ≡ true → cut_from dim bs rs ≡ None → contains bs rs ≡ true
uncut_contains dim [] [] meet e = refl
uncut_contains dim [] (r ∷ rs) meet e = absurd (cc)
uncut_contains dim (b ∷ bs) [] meet e = absurd (cc)
uncut_contains dim (b ∷ bs) (r ∷ rs) meet e =
    by_tests (nat_lt r.low b.low) (nat_lt b.high r.high) refl refl (uncut_contains (dim + 1) bs rs (and_parts (overlap b r) (meets bs rs) meet).1) e
  where
    by_tests : (t u : Bool) → nat_lt r.low b.low ≡ t → nat_lt b.high r.high ≡ u → (cut_from (dim + 1) bs rs ≡ None → contains bs rs ≡ true)
        → (if t then Some (cut_at dim (b.low - 1)) else (if u then Some (cut_at dim b.high) else cut_from (dim + 1) bs rs)) ≡ None → contains (b ∷ bs) (r ∷ rs) ≡ true
    by_tests true u low high rest e = absurd (cc)
    by_tests false true low high rest e = absurd (cc)
    by_tests false false low high rest e =
        and_from _ _ (and_from _ _ (le-leb b.low r.low (ltb-false r.low b.low low)) (le-leb r.high b.high (ltb-false b.high r.high high)))
        (rest e)

-- both parts of a cut are smaller
pub extent_lower : (r : List Span) (k at : ℕ) → Inside r k at → extent (set r k (span (get_or r k (span 0 0)).low at)) < extent r
extent_lower [] k at i = absurd (omega (arith, i.above))
extent_lower (s ∷ ss) zero at i = omega (arith, i.below, i.above)
extent_lower (s ∷ ss) (suc k) at i =
    let less = extent_lower ss k at (record { below = i.below; above = i.above }) in omega arith

pub extent_upper : (r : List Span) (k at : ℕ) → Inside r k at → extent (set r k (span (at + 1) (get_or r k (span 0 0)).high)) < extent r
extent_upper [] k at i = absurd (omega (arith, i.above))
extent_upper (s ∷ ss) zero at i = omega (arith, i.below, i.above)
extent_upper (s ∷ ss) (suc k) at i =
    let less = extent_upper ss k at (record { below = i.below; above = i.above }) in omega arith

-- what meets a part meets the region, and its range reaches into the part
pub meets_lower : (bs r : List Span) (k at : ℕ) → Inside r k at → meets bs (set r k (span (get_or r k (span 0 0)).low at)) ≡ true
    → (meets bs r ≡ true) × (nat_le (get_or bs k (span 0 0)).low at ≡ true)
meets_lower bs [] k at i meet = absurd (omega (arith, i.above))
meets_lower [] (s ∷ ss) zero at i meet = absurd (cc)
meets_lower [] (s ∷ ss) (suc k) at i meet = absurd (cc)
meets_lower (b ∷ bs) (s ∷ ss) zero at i meet =
    let p = and_parts (overlap b (span s.low at)) (meets bs ss) meet in
    let q = and_parts (nat_le b.low at) (nat_le s.low b.high) p.0 in
    let reach = leb-true b.low at q.0 in
    (and_from _ _ (and_from _ _ (le-leb b.low s.high (omega (arith, i.above))) q.1) p.1, q.0)
meets_lower (b ∷ bs) (s ∷ ss) (suc k) at i meet =
    let p = and_parts (overlap b s) (meets bs (set ss k (span (get_or ss k (span 0 0)).low at))) meet in
    let q = meets_lower bs ss k at (record { below = i.below; above = i.above }) p.1 in
    (and_from _ _ p.0 q.0, q.1)

pub meets_upper : (bs r : List Span) (k at : ℕ) → Inside r k at → meets bs (set r k (span (at + 1) (get_or r k (span 0 0)).high)) ≡ true
    → (meets bs r ≡ true) × (nat_lt at (get_or bs k (span 0 0)).high ≡ true)
meets_upper bs [] k at i meet = absurd (omega (arith, i.above))
meets_upper [] (s ∷ ss) zero at i meet = absurd (cc)
meets_upper [] (s ∷ ss) (suc k) at i meet = absurd (cc)
meets_upper (b ∷ bs) (s ∷ ss) zero at i meet =
    let p = and_parts (overlap b (span (at + 1) s.high)) (meets bs ss) meet in
    let q = and_parts (nat_le b.low s.high) (nat_le (at + 1) b.high) p.0 in
    let reach = leb-true (at + 1) b.high q.1 in
    (and_from _ _ (and_from _ _ q.0 (le-leb s.low b.high (omega (arith, i.below)))) p.1, lt-ltb at b.high (omega arith))
meets_upper (b ∷ bs) (s ∷ ss) (suc k) at i meet =
    let p = and_parts (overlap b s) (meets bs (set ss k (span (at + 1) (get_or ss k (span 0 0)).high))) meet in
    let q = meets_upper bs ss k at (record { below = i.below; above = i.above }) p.1 in
    (and_from _ _ p.0 q.0, q.1)

-- a part has only points of the region
pub lower_holds : (r : List Span) (x : List ℕ) (k at : ℕ) → Inside r k at → holds (set r k (span (get_or r k (span 0 0)).low at)) x ≡ true → holds r x ≡ true
lower_holds [] x k at i h = absurd (omega (arith, i.above))
lower_holds (s ∷ ss) [] zero at i h = absurd (cc)
lower_holds (s ∷ ss) [] (suc k) at i h = absurd (cc)
lower_holds (s ∷ ss) (n ∷ ns) zero at i h =
    let p = and_parts (has (span s.low at) n) (holds ss ns) h in
    let q = and_parts (nat_le s.low n) (nat_le n at) p.0 in
    let most = leb-true n at q.1 in
    and_from _ _ (and_from _ _ q.0 (le-leb n s.high (omega (arith, i.above)))) p.1
lower_holds (s ∷ ss) (n ∷ ns) (suc k) at i h =
    let p = and_parts (has s n) (holds (set ss k (span (get_or ss k (span 0 0)).low at)) ns) h in
    and_from _ _ p.0 (lower_holds ss ns k at (record { below = i.below; above = i.above }) p.1)

pub upper_holds : (r : List Span) (x : List ℕ) (k at : ℕ) → Inside r k at → holds (set r k (span (at + 1) (get_or r k (span 0 0)).high)) x ≡ true → holds r x ≡ true
upper_holds [] x k at i h = absurd (omega (arith, i.above))
upper_holds (s ∷ ss) [] zero at i h = absurd (cc)
upper_holds (s ∷ ss) [] (suc k) at i h = absurd (cc)
upper_holds (s ∷ ss) (n ∷ ns) zero at i h =
    let p = and_parts (has (span (at + 1) s.high) n) (holds ss ns) h in
    let q = and_parts (nat_le (at + 1) n) (nat_le n s.high) p.0 in
    let least = leb-true (at + 1) n q.0 in
    and_from _ _ (and_from _ _ (le-leb s.low n (omega (arith, i.below))) q.1) p.1
upper_holds (s ∷ ss) (n ∷ ns) (suc k) at i h =
    let p = and_parts (has s n) (holds (set ss k (span (at + 1) (get_or ss k (span 0 0)).high)) ns) h in
    and_from _ _ p.0 (upper_holds ss ns k at (record { below = i.below; above = i.above }) p.1)

-- two regions that have the same point meet
pub holds_meets : (r s : List Span) (x : List ℕ) → holds r x ≡ true → holds s x ≡ true → meets r s ≡ true
holds_meets [] [] x in_r in_s = refl
holds_meets [] (t ∷ ts) [] in_r in_s = absurd (cc)
holds_meets [] (t ∷ ts) (n ∷ ns) in_r in_s = absurd (cc)
holds_meets (s ∷ ss) [] [] in_r in_s = absurd (cc)
holds_meets (s ∷ ss) [] (n ∷ ns) in_r in_s = absurd (cc)
holds_meets (s ∷ ss) (t ∷ ts) [] in_r in_s = absurd (cc)
holds_meets (s ∷ ss) (t ∷ ts) (n ∷ ns) in_r in_s =
    let p = and_parts (has s n) (holds ss ns) in_r in
    let q = and_parts (has t n) (holds ts ns) in_s in
    and_from _ _ (common s t n p.0 q.0) (holds_meets ss ts ns p.1 q.1)
  where
    common : (s t : Span) (n : ℕ) → has s n ≡ true → has t n ≡ true → overlap s t ≡ true
    common s t n a b = grind (arith, nat_tests)
