-- Numbered ranges: their places rise, and the address at a place is found by the last that begins no later.
use Rattle.std.proofs.Common.{◌≡◌, ℕ, zero, suc, ◌+◌, ◌-◌, ◌<◌, ◌≤◌, nat_le, nat_lt, Bool, true, false, cond, List, [], ◌∷◌, ◌++◌, length, slice_get, Some, None, option_and_then, refl, sym, subst, ap, ◌∙◌, arith}
use Rattle.std.specs.List.{slice_index_or, list_any}
use Rattle.std.specs.List.Sorted.{IsNonDecreasingBy, IsPartitionPoint}
use Rattle.std.proofs.lemmas.Bool.Decides.{nat_tests}
use Rattle.std.proofs.lemmas.List.Concat.{flat_map-cons}
use Rattle.std.proofs.lemmas.Option.{slice_get_past, get_or_from_slice_get}
use Rattle.asa_base.specs.Ranges.{AddressSpan}
use Rattle.asa_nat_rules.specs.Maps.{run, addresses_of}
use Rattle.asa_nat_rules.specs.Sets.{span_size}
use Rattle.asa_nat_maps.specs.Places.{Placed, placed_from, ranges_of, address_in, address_at, before}

ranges_from : (n : ℕ) (spans : List AddressSpan) → ranges_of (placed_from n spans) ≡ spans
ranges_from n [] = refl
ranges_from n (s ∷ ss) = ap (λ xs. s ∷ xs) (ranges_from (n + span_size s) ss)

pub ranges_placed : (spans : List AddressSpan) → ranges_of (placed_from 0 spans) ≡ spans
ranges_placed spans = ranges_from 0 spans

-- no place is below the number from which they are counted
places_from : (n : ℕ) (spans : List AddressSpan) (j : ℕ) (d : Placed) → j < length (placed_from n spans) → n ≤ (slice_index_or (placed_from n spans) j d).place
places_from n [] j d below = absurd (omega (arith, below))
places_from n (s ∷ ss) zero d below = omega arith
places_from n (s ∷ ss) (suc j) d below = let h = places_from (n + span_size s) ss j d (omega (arith, below)) in omega (arith, h)

rises_from : (n : ℕ) (spans : List AddressSpan) → IsNonDecreasingBy (λ (x : Placed). x.place) (placed_from n spans)
rises_from n [] i j d le below = absurd (omega (arith, below))
rises_from n (s ∷ ss) zero zero d le below = omega arith
rises_from n (s ∷ ss) zero (suc j) d le below = let h = places_from (n + span_size s) ss j d (omega (arith, below)) in omega (arith, h)
rises_from n (s ∷ ss) (suc i) zero d le below = absurd (omega (arith, le))
rises_from n (s ∷ ss) (suc i) (suc j) d le below = rises_from (n + span_size s) ss i j d (omega (arith, le)) (omega (arith, below))

-- the places of numbered ranges rise
pub numbered_rises : (xs : List Placed) → xs ≡ placed_from 0 (ranges_of xs) → IsNonDecreasingBy (λ (x : Placed). x.place) xs
numbered_rises xs e = subst (IsNonDecreasingBy (λ (x : Placed). x.place)) (sym e) (rises_from 0 (ranges_of xs))

-- addresses from one on, and what stands after them
run_here : (m f j : ℕ) (ys : List ℕ) → j < m → slice_get (run m f ++ ys) j ≡ Some (f + j)
unfolding run
run_here zero f j ys lt = absurd (omega (arith, lt))
run_here (suc m) f zero ys lt = let e : f ≡ f + 0 = omega arith in ap Some e
run_here (suc m) f (suc j) ys lt = let e : f + 1 + j ≡ f + suc j = omega arith in run_here m (f + 1) j ys (omega (arith, lt)) ∙ ap Some e

run_later : (m f j : ℕ) (ys : List ℕ) → m ≤ j → slice_get (run m f ++ ys) j ≡ slice_get ys (j - m)
unfolding run
run_later zero f j ys le = let e : j ≡ j - 0 = omega arith in ap (slice_get ys) e
run_later (suc m) f zero ys le = absurd (omega (arith, le))
run_later (suc m) f (suc j) ys le = let e : j - m ≡ suc j - suc m = omega arith in run_later m (f + 1) j ys (omega (arith, le)) ∙ ap (slice_get ys) e

pub addresses_cons : (s : AddressSpan) (ss : List AddressSpan) → addresses_of (s ∷ ss) ≡ run (span_size s) s.first.0 ++ addresses_of ss
unfolding addresses_of
addresses_cons s ss = flat_map-cons (λ (x : AddressSpan). run (span_size x) x.first.0) s ss

pub addresses_none : addresses_of [] ≡ []
unfolding addresses_of
addresses_none = refl

pub tail_point : {X : Type 0} (P Q : X → Type 0) (x : X) (xs : List X) (i : ℕ) → IsPartitionPoint P Q (x ∷ xs) (suc i) → IsPartitionPoint P Q xs i
tail_point P Q x xs i h =
    (λ k d lo hi. h.0 (suc k) d (omega arith) (omega (arith, hi)), λ k d lo hi. h.1 (suc k) d (omega (arith, lo)) (omega (arith, hi)))

-- pieces that begin at a place or ahead of it, and those that begin later
abbrev Point : List Placed → ℕ → ℕ → Type 0
Point xs k i = IsPartitionPoint (λ (x : Placed). nat_le x.place k ≡ true) (λ (x : Placed). nat_le x.place k ≡ false) xs i

abbrev piece : AddressSpan → ℕ → Placed
piece s n = record { range = s; place = n }

-- the last piece has the address, or there is none
at_last : (n : ℕ) (s : AddressSpan) (ss : List AddressSpan) (k : ℕ) → n ≤ k → Point (placed_from (n + span_size s) ss) k 0
    → address_in (piece s n) k ≡ slice_get (run (span_size s) s.first.0 ++ addresses_of ss) (k - n)
at_last n s [] k le h = by (nat_lt (k - n) (span_size s)) refl
  where
    by : (b : Bool) → nat_lt (k - n) (span_size s) ≡ b → cond b (Some (s.first.0 + (k - n))) None ≡ slice_get (run (span_size s) s.first.0 ++ addresses_of []) (k - n)
    by true e = sym (run_here (span_size s) s.first.0 (k - n) (addresses_of []) (grind (arith, nat_tests, e)))
    by false e = sym (run_later (span_size s) s.first.0 (k - n) (addresses_of []) (grind (arith, nat_tests, e))
        ∙ ap (λ (ys : List ℕ). slice_get ys (k - n - span_size s)) addresses_none ∙ slice_get_past [] (k - n - span_size s) (omega arith))
at_last n s (t ∷ ss) k le h = by (nat_lt (k - n) (span_size s)) refl (h.1 zero (piece t (n + span_size s)) (omega arith) (omega arith))
  where
    by : (b : Bool) → nat_lt (k - n) (span_size s) ≡ b → nat_le (n + span_size s) k ≡ false
        → cond b (Some (s.first.0 + (k - n))) None ≡ slice_get (run (span_size s) s.first.0 ++ addresses_of (t ∷ ss)) (k - n)
    by true e f = sym (run_here (span_size s) s.first.0 (k - n) (addresses_of (t ∷ ss)) (grind (arith, nat_tests, e)))
    by false e f = absurd (grind (arith, nat_tests, e, f, le))

at_by : (n : ℕ) (spans : List AddressSpan) (i k : ℕ) → n ≤ k → Point (placed_from n spans) k i
    → option_and_then (λ x. address_in x k) (before (placed_from n spans) i) ≡ slice_get (addresses_of spans) (k - n)
at_by n [] zero k le h = sym (ap (λ (ys : List ℕ). slice_get ys (k - n)) addresses_none ∙ slice_get_past [] (k - n) (omega arith))
at_by n [] (suc i) k le h = ap (option_and_then (λ x. address_in x k)) (slice_get_past [] i (omega arith))
    ∙ sym (ap (λ (ys : List ℕ). slice_get ys (k - n)) addresses_none ∙ slice_get_past [] (k - n) (omega arith))
at_by n (s ∷ ss) zero k le h = let f = h.1 zero (piece s n) (omega arith) (omega arith) in absurd (grind (arith, nat_tests, f, le))
at_by n (s ∷ ss) (suc zero) k le h =
    at_last n s ss k le (tail_point (λ (x : Placed). nat_le x.place k ≡ true) (λ (x : Placed). nat_le x.place k ≡ false) (piece s n) (placed_from (n + span_size s) ss) zero h)
    ∙ ap (λ ys. slice_get ys (k - n)) (sym (addresses_cons s ss))
at_by n (s ∷ []) (suc (suc i)) k le h = let f = h.0 1 (piece s (k + 1)) (omega arith) (omega arith) in absurd (grind (arith, nat_tests, f))
at_by n (s ∷ t ∷ ss) (suc (suc i)) k le h =
    let f = h.0 1 (piece s n) (omega arith) (omega arith) in
    let more : n + span_size s ≤ k = grind (arith, nat_tests, f) in
    let past : span_size s ≤ k - n = omega (arith, more) in
    let gap : k - (n + span_size s) ≡ k - n - span_size s = omega (arith, more) in
    at_by (n + span_size s) (t ∷ ss) (suc i) k more
    (tail_point (λ (x : Placed). nat_le x.place k ≡ true) (λ (x : Placed). nat_le x.place k ≡ false) (piece s n) (placed_from (n + span_size s) (t ∷ ss)) (suc i) h)
    ∙ ap (slice_get (addresses_of (t ∷ ss))) gap
    ∙ sym (run_later (span_size s) s.first.0 (k - n) (addresses_of (t ∷ ss)) past)
    ∙ ap (λ ys. slice_get ys (k - n)) (sym (addresses_cons s (t ∷ ss)))

-- the address at a place
pub at_place : (xs : List Placed) (i k : ℕ) → xs ≡ placed_from 0 (ranges_of xs) → Point xs k i
    → option_and_then (λ x. address_in x k) (before xs i) ≡ address_at (ranges_of xs) k
at_place xs i k e h =
    let same : k - 0 ≡ k = omega arith in
    ap (λ ys. option_and_then (λ x. address_in x k) (before ys i)) e
    ∙ at_by 0 (ranges_of xs) i k (omega arith) (subst (λ ys. Point ys k i) e h)
    ∙ ap (slice_get (addresses_of (ranges_of xs))) same

-- that piece begins no later
pub before_within : (xs : List Placed) (i k : ℕ) (x : Placed) → before xs i ≡ Some x → Point xs k i → x.place ≤ k
before_within xs zero k x e h = absurd (cc)
before_within xs (suc j) k x e h =
    let same : slice_index_or xs j x ≡ x = get_or_from_slice_get xs j x x e in
    let f : nat_le x.place k ≡ true = subst (λ (y : Placed). nat_le y.place k ≡ true) same (h.0 j x (omega arith) (omega arith)) in
    grind (arith, nat_tests, f)

-- what is asked of the pieces is asked of the numbered ranges
pub listed_any : (xs : List Placed) (p : Placed → Bool) → xs ≡ placed_from 0 (ranges_of xs) → list_any p xs ≡ list_any p (placed_from 0 (ranges_of xs))
listed_any xs p e = ap (list_any p) e
