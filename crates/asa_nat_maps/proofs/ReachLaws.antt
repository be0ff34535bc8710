-- A mapped address is reached where it stands at a place at which the real address is taken.
use Rattle.std.proofs.Common.{◌≡◌, ℕ, zero, suc, ◌+◌, ◌-◌, ◌<◌, ◌≤◌, ◌==◌, nat_le, Bool, true, false, cond, ◌&&◌, ◌||◌, List, [], ◌∷◌, ◌++◌, slice_get, Option, Some, None, option_and_then, refl, sym, ap, ◌∙◌, arith}
use Rattle.std.specs.List.{list_any, position_from}
use Rattle.std.proofs.lemmas.Bool.{and_parts}
use Rattle.std.proofs.lemmas.Bool.Decides.{Decides-eqb, nat_tests}
use Rattle.std.proofs.lemmas.Option.{slice_get_past}
use Rattle.asa_base.specs.Ranges.{AddressSpan}
use Rattle.asa_nat_rules.specs.Maps.{run, addresses_of, static_map}
use Rattle.asa_nat_rules.specs.Sets.{span_size}
use Rattle.asa_nat_maps.specs.Places.{placed_from, address_at, first_place}
use Rattle.asa_nat_maps.specs.Maps.{is_this, is_reached, is_first, is_first_of, is_first_if, lands}
use Rattle.asa_nat_maps.proofs.MapLaws.{position_is, sent_at}
use Rattle.asa_nat_maps.proofs.PlaceLaws.{addresses_cons, addresses_none}

-- the number stands at a place that passes a test, counted from a number
abbrev stands : (ℕ → Bool) → ℕ → ℕ → List ℕ → Bool
stands t b n [] = false
stands t b n (y ∷ ys) = (y == b && t n) || stands t b (n + 1) ys

here_if : (t : ℕ → Bool) (h : Bool) (n : ℕ) (rest : Bool) → h ≡ false → ((h && t n) || rest) ≡ rest
here_if t h n rest e = ap (λ x. (x && t n) || rest) e

stands_above : (t : ℕ → Bool) (m f n b : ℕ) (ys : List ℕ) → b < f → stands t b n (run m f ++ ys) ≡ stands t b (n + m) ys
unfolding run
stands_above t zero f n b ys lt = let e : n ≡ n + 0 = omega arith in ap (λ k. stands t b k ys) e
stands_above t (suc m) f n b ys lt =
    let other : (f == b) ≡ false = grind (arith, nat_tests, lt) in
    let e : n + 1 + m ≡ n + suc m = omega arith in
    here_if t (f == b) n (stands t b (n + 1) (run m (f + 1) ++ ys)) other
    ∙ stands_above t m (f + 1) (n + 1) b ys (omega (arith, lt)) ∙ ap (λ k. stands t b k ys) e

stands_below : (t : ℕ → Bool) (m f n b : ℕ) (ys : List ℕ) → f + m ≤ b → stands t b n (run m f ++ ys) ≡ stands t b (n + m) ys
unfolding run
stands_below t zero f n b ys le = let e : n ≡ n + 0 = omega arith in ap (λ k. stands t b k ys) e
stands_below t (suc m) f n b ys le =
    let other : (f == b) ≡ false = grind (arith, nat_tests, le) in
    let e : n + 1 + m ≡ n + suc m = omega arith in
    here_if t (f == b) n (stands t b (n + 1) (run m (f + 1) ++ ys)) other
    ∙ stands_below t m (f + 1) (n + 1) b ys (omega (arith, le)) ∙ ap (λ k. stands t b k ys) e

stands_here : (t : ℕ → Bool) (m f n b : ℕ) (ys : List ℕ) → f ≤ b → b < f + m → stands t b n (run m f ++ ys) ≡ (t (n + (b - f)) || stands t b (n + m) ys)
unfolding run
stands_here t zero f n b ys le lt = absurd (omega (arith, le, lt))
stands_here t (suc m) f n b ys le lt =
    by (f == b) refl (λ below. stands_above t m (f + 1) (n + 1) b ys below) (λ more. stands_here t m (f + 1) (n + 1) b ys more (omega (arith, lt)))
  where
    count : n + 1 + m ≡ n + suc m
    count = omega arith

    by : (h : Bool) → (f == b) ≡ h → (b < f + 1 → stands t b (n + 1) (run m (f + 1) ++ ys) ≡ stands t b (n + 1 + m) ys)
        → (f + 1 ≤ b → stands t b (n + 1) (run m (f + 1) ++ ys) ≡ (t (n + 1 + (b - (f + 1))) || stands t b (n + 1 + m) ys))
        → ((h && t n) || stands t b (n + 1) (run m (f + 1) ++ ys)) ≡ (t (n + (b - f)) || stands t b (n + suc m) ys)
    by true e above later =
        let below : b < f + 1 = grind (arith, nat_tests, e) in
        let same : n ≡ n + (b - f) = grind (arith, nat_tests, e) in
        ap (λ x. t n || x) (above below ∙ ap (λ k. stands t b k ys) count) ∙ ap (λ k. t k || stands t b (n + suc m) ys) same
    by false e above later =
        let more : f + 1 ≤ b = grind (arith, nat_tests, e, le) in
        let same : n + 1 + (b - (f + 1)) ≡ n + (b - f) = omega (arith, more) in
        later more ∙ ap (λ k. t k || stands t b (n + 1 + m) ys) same ∙ ap (λ k. t (n + (b - f)) || stands t b k ys) count

-- one numbered range in front
lands_one : (from : List AddressSpan) (n : ℕ) (s : AddressSpan) (b : ℕ) (ys : List ℕ)
    → (lands from (record { range = s; place = n }) b || stands (is_first from) b (n + span_size s) ys) ≡ stands (is_first from) b n (run (span_size s) s.first.0 ++ ys)
lands_one from n s b ys = by (nat_le s.first.0 b) (nat_le b s.last.0) refl refl
  where
    by : (low high : Bool) → nat_le s.first.0 b ≡ low → nat_le b s.last.0 ≡ high
        → (is_first_if from (cond (low && high) (Some (n + (b - s.first.0))) None) || stands (is_first from) b (n + span_size s) ys) ≡ stands (is_first from) b n (run (span_size s) s.first.0 ++ ys)
    by true true e f = sym (stands_here (is_first from) (span_size s) s.first.0 n b ys (grind (arith, nat_tests, e)) (grind (arith, nat_tests, e, f)))
    by true false e f = sym (stands_below (is_first from) (span_size s) s.first.0 n b ys (grind (arith, nat_tests, e, f)))
    by false high e f = sym (stands_above (is_first from) (span_size s) s.first.0 n b ys (grind (arith, nat_tests, e)))

lands_from : (from : List AddressSpan) (n : ℕ) (to : List AddressSpan) (b : ℕ) → list_any (λ x. lands from x b) (placed_from n to) ≡ stands (is_first from) b n (addresses_of to)
lands_from from n [] b = ap (stands (is_first from) b n) (sym addresses_none)
lands_from from n (s ∷ ss) b =
    ap (λ x. lands from (record { range = s; place = n }) b || x) (lands_from from (n + span_size s) ss b)
    ∙ lands_one from n s b (addresses_of ss) ∙ ap (stands (is_first from) b n) (sym (addresses_cons s ss))

or_left : (x y : Bool) → x ≡ true → (x || y) ≡ true
or_left true y e = refl
or_left false y e = absurd (cc)

or_right : (x y : Bool) → y ≡ true → (x || y) ≡ true
or_right true y e = refl
or_right false y e = e

none_there : {X : Type 0} (k : ℕ) (x : X) → slice_get [] k ≡ Some x → ⊥
none_there k x e = let n = sym (slice_get_past [] k (omega arith)) ∙ e in absurd (cc)

stands_put : (t : ℕ → Bool) (b n : ℕ) (ys : List ℕ) (k : ℕ) → slice_get ys k ≡ Some b → t (n + k) ≡ true → stands t b n ys ≡ true
stands_put t b n [] k e h = absurd (none_there k b e)
stands_put t b n (y ∷ ys) zero e h =
    let same : y ≡ b = cc in
    let test : (y == b) ≡ true = grind (arith, nat_tests, same) in
    let at : n + 0 ≡ n = omega arith in
    or_left (y == b && t n) (stands t b (n + 1) ys) (ap (λ x. x && t n) test ∙ ap t (sym at) ∙ h)
stands_put t b n (y ∷ ys) (suc k) e h =
    let at : n + suc k ≡ n + 1 + k = omega arith in
    or_right (y == b && t n) (stands t b (n + 1) ys) (stands_put t b (n + 1) ys k e (ap t (sym at) ∙ h))

stands_get : (t : ℕ → Bool) (b n : ℕ) (ys : List ℕ) → stands t b n ys ≡ true → (k : ℕ) × (slice_get ys k ≡ Some b) × (t (n + k) ≡ true)
stands_get t b n [] e = absurd (cc)
stands_get t b n (y ∷ ys) e = by (y == b && t n) refl e (λ rest. stands_get t b (n + 1) ys rest)
  where
    by : (h : Bool) → (y == b && t n) ≡ h → (h || stands t b (n + 1) ys) ≡ true
        → (stands t b (n + 1) ys ≡ true → (k : ℕ) × (slice_get ys k ≡ Some b) × (t (n + 1 + k) ≡ true))
        → (k : ℕ) × (slice_get (y ∷ ys) k ≡ Some b) × (t (n + k) ≡ true)
    by true here e rest =
        let parts = and_parts (y == b) (t n) here in
        let at : n ≡ n + 0 = omega arith in
        (0, ap Some ((Decides-eqb y b).0 parts.0), ap t (sym at) ∙ parts.1)
    by false other e rest =
        let r = rest e in
        let at : n + suc r.0 ≡ n + 1 + r.0 = omega arith in
        (suc r.0, r.1, ap t at ∙ r.2)

this_is : (o : Option ℕ) (b : ℕ) → is_this o b ≡ true → o ≡ Some b
this_is None b e = absurd (cc)
this_is (Some c) b e = ap Some ((Decides-eqb c b).0 e)

this_same : (o : Option ℕ) (b : ℕ) → o ≡ Some b → is_this o b ≡ true
this_same o b e = let same : (b == b) ≡ true = grind (arith, nat_tests) in ap (λ x. is_this x b) e ∙ same

any_put : (p : ℕ → Bool) (xs : List ℕ) (i x : ℕ) → slice_get xs i ≡ Some x → p x ≡ true → list_any p xs ≡ true
any_put p [] i x e h = absurd (none_there i x e)
any_put p (y ∷ xs) zero x e h = let same : y ≡ x = cc in or_left (p y) (list_any p xs) (ap p same ∙ h)
any_put p (y ∷ xs) (suc i) x e h = or_right (p y) (list_any p xs) (any_put p xs i x e h)

any_get : (p : ℕ → Bool) (xs : List ℕ) → list_any p xs ≡ true → (x : ℕ) × (p x ≡ true)
any_get p [] e = absurd (cc)
any_get p (y ∷ xs) e = by (p y) refl e (λ rest. any_get p xs rest)
  where
    by : (h : Bool) → p y ≡ h → (h || list_any p xs) ≡ true → (list_any p xs ≡ true → (x : ℕ) × (p x ≡ true)) → (x : ℕ) × (p x ≡ true)
    by true here e rest = (y, here)
    by false other e rest = rest e

-- at its first place stands the number
hit : (a n : ℕ) (xs : List ℕ) (k : ℕ) → position_from (λ x. x == a) n xs ≡ Some k → (j : ℕ) × (k ≡ n + j) × (slice_get xs j ≡ Some a)
hit a n [] k e = absurd (cc)
hit a n (x ∷ xs) k e = by (x == a) refl e (λ rest. hit a (n + 1) xs k rest)
  where
    by : (h : Bool) → (x == a) ≡ h → cond h (Some n) (position_from (λ z. z == a) (n + 1) xs) ≡ Some k
        → (position_from (λ z. z == a) (n + 1) xs ≡ Some k → (j : ℕ) × (k ≡ n + 1 + j) × (slice_get xs j ≡ Some a))
        → (j : ℕ) × (k ≡ n + j) × (slice_get (x ∷ xs) j ≡ Some a)
    by true here e rest = let same : n ≡ k = cc in (0, omega (arith, same), ap Some ((Decides-eqb x a).0 here))
    by false other e rest = let r = rest e in let at = r.1 in (suc r.0, omega (arith, at), r.2)

stands_there : (spans : List AddressSpan) (a k : ℕ) → first_place spans a ≡ Some k → address_at spans k ≡ Some a
stands_there spans a k e =
    let r = hit a 0 (addresses_of spans) k (sym (position_is (λ x. x == a) (addresses_of spans)) ∙ e) in
    let at = r.1 in
    let same : k ≡ r.0 = omega (arith, at) in
    ap (slice_get (addresses_of spans)) same ∙ r.2

reached_lands : (from to : List AddressSpan) (b : ℕ) → is_reached from to b ≡ true → stands (is_first from) b 0 (addresses_of to) ≡ true
reached_lands from to b e =
    let r = any_get (λ a. is_this (static_map from to a) b) (addresses_of from) e in
    by r.0 (first_place from r.0) refl (ap (λ o. is_this o b) (sent_at from to r.0) ∙ r.1)
  where
    by : (a : ℕ) (o : Option ℕ) → first_place from a ≡ o → is_this (option_and_then (address_at to) o) b ≡ true → stands (is_first from) b 0 (addresses_of to) ≡ true
    by a None at h = absurd (cc)
    by a (Some k) at h =
        let same : 0 + k ≡ k = omega arith in
        stands_put (is_first from) b 0 (addresses_of to) k (this_is (address_at to k) b h)
        (ap (is_first from) same ∙ ap (λ o. is_first_of from o k) (stands_there from a k at) ∙ this_same (first_place from a) k at)

lands_reached : (from to : List AddressSpan) (b : ℕ) → stands (is_first from) b 0 (addresses_of to) ≡ true → is_reached from to b ≡ true
lands_reached from to b e =
    let r = stands_get (is_first from) b 0 (addresses_of to) e in
    let same : r.0 ≡ 0 + r.0 = omega arith in
    by r.0 r.1 (address_at from r.0) refl (ap (is_first from) same ∙ r.2)
  where
    by : (k : ℕ) → address_at to k ≡ Some b → (o : Option ℕ) → address_at from k ≡ o → is_first_of from o k ≡ true → is_reached from to b ≡ true
    by k there None at h = absurd (cc)
    by k there (Some a) at h =
        let first = this_is (first_place from a) k h in
        any_put (λ x. is_this (static_map from to x) b) (addresses_of from) k a at
        (this_same (static_map from to a) b (sym (sent_at from to a) ∙ ap (option_and_then (address_at to)) first ∙ there))

both_ways : (x y : Bool) → (x ≡ true → y ≡ true) → (y ≡ true → x ≡ true) → x ≡ y
both_ways true true f g = refl
both_ways true false f g = sym (f refl)
both_ways false true f g = g refl
both_ways false false f g = refl

pub reached_is : (from to : List AddressSpan) (b : ℕ) → list_any (λ x. lands from x b) (placed_from 0 to) ≡ is_reached from to b
reached_is from to b =
    lands_from from 0 to b ∙ both_ways (stands (is_first from) b 0 (addresses_of to)) (is_reached from to b) (lands_reached from to b) (reached_lands from to b)
