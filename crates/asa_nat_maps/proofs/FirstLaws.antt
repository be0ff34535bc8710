-- The first place of an address among numbered ranges.
use Rattle.std.proofs.Common.{◌≡◌, ℕ, zero, suc, ◌+◌, ◌-◌, ◌<◌, ◌≤◌, ◌==◌, min, nat_le, Bool, true, false, cond, ◌&&◌, List, [], ◌∷◌, ◌++◌, length, Option, Some, None, option_and_then, refl, sym, ap, ◌∙◌, arith}
use Rattle.std.specs.List.{position_from, AllWithin}
use Rattle.std.specs.List.Sorted.{IsPermutation, IsPartitionPoint}
use Rattle.std.proofs.lemmas.Bool.{and_parts}
use Rattle.std.proofs.lemmas.Bool.Decides.{nat_tests}
use Rattle.std.proofs.lemmas.Option.{slice_get_past}
use Rattle.asa_base.specs.Ranges.{AddressSpan}
use Rattle.asa_trie.specs.Tries.{Joining, Laws, sum_over}
use Rattle.asa_trie.proofs.SumLaws.{sum_permutation}
use Rattle.asa_nat_rules.specs.Maps.{run, addresses_of}
use Rattle.asa_nat_rules.specs.Sets.{span_size}
use Rattle.asa_nat_maps.specs.Places.{Placed, placed_from, ranges_of, place_in, lesser, least_place, first_place, apart_from, before}
use Rattle.asa_nat_maps.proofs.MapLaws.{position_is}
use Rattle.asa_nat_maps.proofs.PlaceLaws.{addresses_cons, addresses_none, tail_point}

lesser_assoc : (a b c : Option ℕ) → lesser (lesser a b) c ≡ lesser a (lesser b c)
lesser_assoc None b c = refl
lesser_assoc (Some a) None c = refl
lesser_assoc (Some a) (Some b) None = refl
lesser_assoc (Some a) (Some b) (Some c) = let e : min (min a b) c ≡ min a (min b c) = omega arith in ap (λ x. Some x) e

lesser_comm : (a b : Option ℕ) → lesser a b ≡ lesser b a
lesser_comm None None = refl
lesser_comm None (Some b) = refl
lesser_comm (Some a) None = refl
lesser_comm (Some a) (Some b) = let e : min a b ≡ min b a = omega arith in ap (λ x. Some x) e

lesser_none : (a : Option ℕ) → lesser a None ≡ a
lesser_none None = refl
lesser_none (Some a) = refl

abbrev places : Joining (Option ℕ)
places = record { op = lesser; unit = None }

place_laws : Laws places
place_laws = record { assoc = lesser_assoc; comm = lesser_comm; unit_left = λ a. refl }

least_sum : (xs : List Placed) (a : ℕ) → least_place xs a ≡ sum_over places (λ x. place_in x a) xs
least_sum [] a = refl
least_sum (x ∷ xs) a = ap (lesser (place_in x a)) (least_sum xs a)

-- the order of pieces doesn't matter
pub least_permutation : (xs ys : List Placed) (a : ℕ) → IsPermutation xs ys → least_place ys a ≡ least_place xs a
least_permutation xs ys a same = least_sum ys a ∙ sum_permutation places place_laws (λ x. place_in x a) xs ys same ∙ sym (least_sum xs a)

abbrev is : ℕ → ℕ → Bool
is a x = x == a

-- addresses from one on have the address, or all of them stand below or above it
run_has : (m f n a : ℕ) (ys : List ℕ) → f ≤ a → a < f + m → position_from (is a) n (run m f ++ ys) ≡ Some (n + (a - f))
unfolding run
run_has zero f n a ys le lt = absurd (omega (arith, le, lt))
run_has (suc m) f n a ys le lt = by (f == a) refl (λ more. run_has m (f + 1) (n + 1) a ys more (omega (arith, lt)))
  where
    by : (h : Bool) → (f == a) ≡ h → (f + 1 ≤ a → position_from (is a) (n + 1) (run m (f + 1) ++ ys) ≡ Some (n + 1 + (a - (f + 1))))
        → cond h (Some n) (position_from (is a) (n + 1) (run m (f + 1) ++ ys)) ≡ Some (n + (a - f))
    by true e later = let same : n ≡ n + (a - f) = grind (arith, nat_tests, e) in ap Some same
    by false e later =
        let more : f + 1 ≤ a = grind (arith, nat_tests, e, le) in
        let same : n + 1 + (a - (f + 1)) ≡ n + (a - f) = omega (arith, more) in
        later more ∙ ap Some same

run_above : (m f n a : ℕ) (ys : List ℕ) → a < f → position_from (is a) n (run m f ++ ys) ≡ position_from (is a) (n + m) ys
unfolding run
run_above zero f n a ys lt = let e : n ≡ n + 0 = omega arith in ap (λ k. position_from (is a) k ys) e
run_above (suc m) f n a ys lt =
    let no : (f == a) ≡ false = grind (arith, nat_tests, lt) in
    let e : n + 1 + m ≡ n + suc m = omega arith in
    ap (λ h. cond h (Some n) (position_from (is a) (n + 1) (run m (f + 1) ++ ys))) no
    ∙ run_above m (f + 1) (n + 1) a ys (omega (arith, lt)) ∙ ap (λ k. position_from (is a) k ys) e

run_below : (m f n a : ℕ) (ys : List ℕ) → f + m ≤ a → position_from (is a) n (run m f ++ ys) ≡ position_from (is a) (n + m) ys
unfolding run
run_below zero f n a ys le = let e : n ≡ n + 0 = omega arith in ap (λ k. position_from (is a) k ys) e
run_below (suc m) f n a ys le =
    let no : (f == a) ≡ false = grind (arith, nat_tests, le) in
    let e : n + 1 + m ≡ n + suc m = omega arith in
    ap (λ h. cond h (Some n) (position_from (is a) (n + 1) (run m (f + 1) ++ ys))) no
    ∙ run_below m (f + 1) (n + 1) a ys (omega (arith, le)) ∙ ap (λ k. position_from (is a) k ys) e

-- no later place is less
keeps : (t : ℕ → Bool) (v m : ℕ) (xs : List ℕ) → v ≤ m → lesser (Some v) (position_from t m xs) ≡ Some v
keeps t v m [] le = refl
keeps t v m (x ∷ xs) le = by (t x) (keeps t v (m + 1) xs (omega (arith, le)))
  where
    by : (h : Bool) → lesser (Some v) (position_from t (m + 1) xs) ≡ Some v → lesser (Some v) (cond h (Some m) (position_from t (m + 1) xs)) ≡ Some v
    by true later = let e : min v m ≡ v = omega (arith, le) in ap Some e
    by false later = later

-- one range in front
place_one : (n : ℕ) (s : AddressSpan) (a : ℕ) (ys : List ℕ)
    → lesser (place_in (record { range = s; place = n }) a) (position_from (is a) (n + span_size s) ys) ≡ position_from (is a) n (run (span_size s) s.first.0 ++ ys)
place_one n s a ys = by (nat_le s.first.0 a) (nat_le a s.last.0) refl refl
  where
    by : (low high : Bool) → nat_le s.first.0 a ≡ low → nat_le a s.last.0 ≡ high
        → lesser (cond (low && high) (Some (n + (a - s.first.0))) None) (position_from (is a) (n + span_size s) ys) ≡ position_from (is a) n (run (span_size s) s.first.0 ++ ys)
    by true true e f =
        keeps (is a) (n + (a - s.first.0)) (n + span_size s) ys (grind (arith, nat_tests, e, f))
        ∙ sym (run_has (span_size s) s.first.0 n a ys (grind (arith, nat_tests, e)) (grind (arith, nat_tests, e, f)))
    by true false e f = sym (run_below (span_size s) s.first.0 n a ys (grind (arith, nat_tests, e, f)))
    by false high e f = sym (run_above (span_size s) s.first.0 n a ys (grind (arith, nat_tests, e)))

place_from : (n : ℕ) (spans : List AddressSpan) (a : ℕ) → least_place (placed_from n spans) a ≡ position_from (is a) n (addresses_of spans)
place_from n [] a = ap (position_from (is a) n) (sym addresses_none)
place_from n (s ∷ ss) a =
    ap (lesser (place_in (record { range = s; place = n }) a)) (place_from (n + span_size s) ss a)
    ∙ place_one n s a (addresses_of ss) ∙ ap (position_from (is a) n) (sym (addresses_cons s ss))

-- the least place of numbered ranges is the first
pub first_listed : (xs : List Placed) (a : ℕ) → xs ≡ placed_from 0 (ranges_of xs) → least_place xs a ≡ first_place (ranges_of xs) a
first_listed xs a e = ap (λ ys. least_place ys a) e ∙ place_from 0 (ranges_of xs) a ∙ sym (position_is (λ x. x == a) (addresses_of (ranges_of xs)))

pub first_sorted : (xs ys : List Placed) (a : ℕ) → xs ≡ placed_from 0 (ranges_of xs) → IsPermutation xs ys → least_place ys a ≡ first_place (ranges_of xs) a
first_sorted xs ys a e same = least_permutation xs ys a same ∙ first_listed xs a e

-- a range that begins later, or has ended, has no place of the address
place_ahead : (x : Placed) (a : ℕ) → nat_le x.range.first.0 a ≡ false → place_in x a ≡ None
place_ahead x a e = ap (λ h. cond (h && nat_le a x.range.last.0) (Some (x.place + (a - x.range.first.0))) None) e

place_past : (x : Placed) (a : ℕ) → nat_le a x.range.last.0 ≡ false → place_in x a ≡ None
place_past x a e = ap (λ h. cond (nat_le x.range.first.0 a && h) (Some (x.place + (a - x.range.first.0))) None) e ∙ none (nat_le x.range.first.0 a)
  where
    none : (h : Bool) → cond (h && false) (Some (x.place + (a - x.range.first.0))) None ≡ None
    none true = refl
    none false = refl

none_of : (xs : List Placed) (a : ℕ) → AllWithin (λ (x : Placed). nat_le x.range.first.0 a ≡ false) xs 0 (length xs) → least_place xs a ≡ None
none_of [] a h = refl
none_of (x ∷ xs) a h =
    ap (λ o. lesser o (least_place xs a)) (place_ahead x a (h zero x (omega arith) (omega arith)))
    ∙ none_of xs a (λ k d lo hi. h (suc k) d (omega arith) (omega (arith, hi)))

abbrev Up : ℕ → Placed → Type 0
Up a x = nat_le x.range.first.0 a ≡ true

abbrev Beyond : ℕ → Placed → Type 0
Beyond a x = nat_le x.range.first.0 a ≡ false

-- where no two meet, the last that begins no later alone can have the address
pub searched : (a end : ℕ) (xs : List Placed) (i : ℕ) → apart_from end xs ≡ true
    → IsPartitionPoint (λ (x : Placed). nat_le x.range.first.0 a ≡ true) (λ (x : Placed). nat_le x.range.first.0 a ≡ false) xs i
    → option_and_then (λ x. place_in x a) (before xs i) ≡ least_place xs a
searched a end [] zero apart h = refl
searched a end [] (suc i) apart h = ap (option_and_then (λ x. place_in x a)) (slice_get_past [] i (omega arith))
searched a end (x ∷ xs) zero apart h = sym (none_of (x ∷ xs) a h.1)
searched a end (x ∷ xs) (suc zero) apart h =
    sym (ap (lesser (place_in x a)) (none_of xs a (tail_point (Up a) (Beyond a) x xs zero h).1) ∙ lesser_none (place_in x a))
searched a end (x ∷ []) (suc (suc i)) apart h =
    let d : Placed = record { range = record { first = record { 0 = a + 1 }; last = record { 0 = 0 } }; place = 0 } in
    let f = h.0 1 d (omega arith) (omega arith) in absurd (grind (arith, nat_tests, f))
searched a end (x ∷ y ∷ zs) (suc (suc i)) apart h =
    let rest = and_parts (nat_le end x.range.first.0) (apart_from (x.range.last.0 + 1) (y ∷ zs)) apart in
    let meets = and_parts (nat_le (x.range.last.0 + 1) y.range.first.0) (apart_from (y.range.last.0 + 1) zs) rest.1 in
    let begun = h.0 1 y (omega arith) (omega arith) in
    let gap = meets.0 in
    let ended : nat_le a x.range.last.0 ≡ false = grind (arith, nat_tests, begun, gap) in
    searched a (x.range.last.0 + 1) (y ∷ zs) (suc i) rest.1 (tail_point (Up a) (Beyond a) x (y ∷ zs) (suc i) h)
    ∙ ap (λ o. lesser o (least_place (y ∷ zs) a)) (sym (place_past x a ended))
