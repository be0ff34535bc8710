-- A certificate shows that no packet first matches its line.
use Rattle.std.proofs.Common.{◌≡◌, ℕ, zero, suc, ◌+◌, ◌-◌, ◌<◌, ◌≤◌, Bool, true, false, not, ◌&&◌, ◌||◌, ◌==◌, if◌then◌else◌, nat_lt, List, [], ◌∷◌, filter, get_or, slice_get, length, drop, reverse, Option, Some, None, refl, sym, ap, ◌∙◌, ◌⊎◌, ⊎_elim, arith}
use Rattle.std.specs.List.{list_any}
use Rattle.std.proofs.lemmas.Bool.{and_parts, and_from, or_left, or_right, or_cases, cases_lt, cases_Bool}
use Rattle.std.proofs.lemmas.Bool.Decides.{nat_tests}
use Rattle.asa_base.specs.declared.flow.Packet.{Packet}
use Rattle.asa_shadow.specs.declared.region.Span.{Span}
use Rattle.asa_shadow.specs.declared.region.Cut.{Cut}
use Rattle.asa_shadow.specs.declared.box_at.BoxAt.{BoxAt}
use Rattle.asa_shadow.specs.declared.node.Node.{Node}
use Rattle.asa_shadow.specs.declared.node.Node.TheVariants as node
use Rattle.asa_shadow.specs.Regions.{contains, holds, is_inside, lower, upper, point_of}
use Rattle.asa_shadow.specs.Matches.{holds_earlier, holds_there, is_first}
use Rattle.asa_shadow.specs.Certificates.{covers, is_covered, cut_at, are_trees, boxes_of_line, have_trees, is_certificate}
use Rattle.asa_shadow.proofs.RegionLaws.{contains_holds, holds_lower, holds_upper}

-- an element that passes a test
any_get : {X : Type 0} (test : X → Bool) (xs : List X) (i : ℕ) (x : X) → slice_get xs i ≡ Some x → test x ≡ true → list_any test xs ≡ true
any_get test [] i x there passes = absurd (cc)
any_get test (y ∷ ys) zero x there passes = let same : y ≡ x = cc in or_left (test y) (list_any test ys) (rw same passes)
any_get test (y ∷ ys) (suc i) x there passes = or_right (test y) (list_any test ys) (any_get test ys i x there passes)

covers_holds : (boxes : List BoxAt) (line : ℕ) (r : List Span) (x : List ℕ) (i : ℕ) (o : Option BoxAt) → slice_get boxes i ≡ o → covers line r o ≡ true
    → holds r x ≡ true → holds_earlier boxes line x ≡ true
covers_holds boxes line r x i None at is in_r = absurd (cc)
covers_holds boxes line r x i (Some b) at is in_r =
    let p = and_parts (nat_lt b.line line) (contains b.region r) is in
    any_get (λ b. nat_lt b.line line && holds b.region x) boxes i b at (and_from _ _ p.0 (contains_holds b.region r x p.1 in_r))

-- a leaf's region is held by an earlier line
covered_holds : (boxes : List BoxAt) (line : ℕ) (r : List Span) (by : ℕ) (x : List ℕ) → is_covered boxes line r by ≡ true
    → holds r x ≡ true → holds_earlier boxes line x ≡ true
covered_holds boxes line r by x is in_r =
    let p = and_parts (nat_lt 0 by) (covers line r (slice_get boxes (by - 1))) is in
    covers_holds boxes line r x (by - 1) (slice_get boxes (by - 1)) refl p.1 in_r

-- all points of the region are held by earlier lines
pub record IsHeld (boxes : List BoxAt) (line : ℕ) (r : List Span) : Type 0 where
  pub each : (x : List ℕ) → holds r x ≡ true → holds_earlier boxes line x ≡ true

parts_held : (boxes : List BoxAt) (line : ℕ) (r : List Span) (c : Cut) → IsHeld boxes line (lower r c) → IsHeld boxes line (upper r c) → IsHeld boxes line r
parts_held boxes line r c low high = record {
  each = λ x in_r. ⊎_elim
      (λ (above : c.at < get_or x (c.dim - 1) 0). high.each x (holds_upper r x (c.dim - 1) c.at in_r above))
      (λ (below : get_or x (c.dim - 1) 0 ≤ c.at). low.each x (holds_lower r x (c.dim - 1) c.at in_r below))
      (cases_lt c.at (get_or x (c.dim - 1) 0));
}

abbrev AllHeld : List BoxAt → ℕ → List (List Span) → Type 0
AllHeld boxes line [] = Unit {0}
AllHeld boxes line (r ∷ rs) = IsHeld boxes line r × AllHeld boxes line rs

trees_held : (boxes : List BoxAt) (line : ℕ) (rs : List (List Span)) (ns : List Node) → are_trees boxes line rs ns ≡ true → AllHeld boxes line rs
trees_held boxes line [] [] is = tt
trees_held boxes line [] (n ∷ ns) is = absurd (cc)
trees_held boxes line (r ∷ rs) [] is = absurd (cc)
trees_held boxes line (r ∷ rs) (node.Cut dim at ∷ ns) is =
    let p = and_parts (is_inside r (cut_at dim at)) (are_trees boxes line (lower r (cut_at dim at) ∷ upper r (cut_at dim at) ∷ rs) ns) is in
    let q = trees_held boxes line (lower r (cut_at dim at) ∷ upper r (cut_at dim at) ∷ rs) ns p.1 in
    (parts_held boxes line r (cut_at dim at) q.0 q.1.0, q.1.1)
trees_held boxes line (r ∷ rs) (node.Covered by ∷ ns) is =
    let p = and_parts (is_covered boxes line r by) (are_trees boxes line rs ns) is in
    (record { each = λ x in_r. covered_holds boxes line r by x p.0 in_r }, trees_held boxes line rs ns p.1)

have_held : (boxes : List BoxAt) (line : ℕ) (bs : List BoxAt) (ts : List (List Node)) (x : List ℕ) → have_trees boxes line bs ts ≡ true
    → list_any (λ b. holds b.region x) bs ≡ true → holds_earlier boxes line x ≡ true
have_held boxes line [] ts x have any = absurd (cc)
have_held boxes line (b ∷ bs) [] x have any = absurd (cc)
have_held boxes line (b ∷ bs) (t ∷ ts) x have any =
    let p = and_parts (are_trees boxes line (b.region ∷ []) t) (have_trees boxes line bs ts) have in
    ⊎_elim
    (λ (here : holds b.region x ≡ true). let held = trees_held boxes line (b.region ∷ []) t p.0 in held.0.each x here)
    (λ (there : list_any (λ b. holds b.region x) bs ≡ true). have_held boxes line bs ts x p.1 there)
    (or_cases (holds b.region x) (list_any (λ b. holds b.region x) bs) any)

-- a test among the elements that pass another
pub any_filter : {X : Type 0} (p q : X → Bool) (xs : List X) → list_any (λ x. p x && q x) xs ≡ list_any q (filter p xs)
any_filter p q [] = refl
any_filter p q (x ∷ xs) = by_test (p x) (any_filter p q xs)
  where
    by_test : (b : Bool) → list_any (λ x. p x && q x) xs ≡ list_any q (filter p xs)
        → ((b && q x) || list_any (λ x. p x && q x) xs) ≡ list_any q (if b then x ∷ filter p xs else filter p xs)
    by_test true e = ap (λ t. q x || t) e
    by_test false e = e

-- no packet first matches a line that has a certificate
pub certificate_sound : (boxes : List BoxAt) (line : ℕ) (trees : List (List Node)) (p : Packet) → is_certificate boxes line trees ≡ true → is_first boxes line p ≡ false
unfolding is_certificate
certificate_sound boxes line trees p is = ⊎_elim
    (λ (there : holds_there boxes line (point_of p) ≡ true).
    let any = sym (any_filter (λ b. b.line == line) (λ b. holds b.region (point_of p)) boxes) ∙ there in
    let earlier = have_held boxes line (boxes_of_line boxes line) trees (point_of p) is any in
    rw (there, earlier) refl)
    (λ (none : holds_there boxes line (point_of p) ≡ false). rw none refl)
    (cases_Bool (holds_there boxes line (point_of p)))

-- nodes without a region are no trees
pub no_region_left : (boxes : List BoxAt) (line : ℕ) (rs : List (List Span)) (i : ℕ) (ns : List Node) → length rs ≡ 0 → i < length ns
    → are_trees boxes line (reverse rs) (drop i ns) ≡ false
no_region_left boxes line [] i ns none less = more i ns less
  where
    more : (i : ℕ) (ns : List Node) → i < length ns → are_trees boxes line [] (drop i ns) ≡ false
    more i [] less = absurd (omega arith)
    more zero (n ∷ ns) less = refl
    more (suc i) (n ∷ ns) less = more i ns (omega arith)
no_region_left boxes line (r ∷ rs) i ns none less = absurd (omega arith)

-- where all boxes of the line have their trees, no tree is left
pub no_tree_left : (boxes : List BoxAt) (line : ℕ) (next : ℕ) (ts : List (List Node)) → next ≤ length ts
    → have_trees boxes line [] (drop next ts) ≡ (next == length ts)
no_tree_left boxes line zero [] le = refl
no_tree_left boxes line (suc next) [] le = absurd (omega arith)
no_tree_left boxes line zero (t ∷ ts) le = grind (arith, nat_tests)
no_tree_left boxes line (suc next) (t ∷ ts) le = no_tree_left boxes line next ts (omega arith) ∙ same next (length ts)
  where
    same : (m n : ℕ) → (m == n) ≡ (suc m == suc n)
    same m n = grind (arith, nat_tests)
