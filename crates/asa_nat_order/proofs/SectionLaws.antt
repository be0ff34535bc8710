-- The three sections have every index once, and there is only one NAT order.
use Rattle.std.proofs.Common.{◌≡◌, ℕ, zero, suc, IsTrue, nat_le, ◌<◌, Bool, true, false, not, ◌&&◌, ◌||◌, cond, ◌==◌, List, [], ◌∷◌, ◌++◌, length, get_or, filter, refl, sym, ap, ◌∙◌, arith}
use Rattle.std.specs.List.{All, list_all, slice_get, range_with_len}
use Rattle.std.specs.List.Sorted.{IsPermutation}
use Rattle.std.proofs.lemmas.Bool.Decides.{nat_tests}
use Rattle.std.specs.Ordering.{is_lt}
use Rattle.std.proofs.lemmas.List.Elements.{All-head, All-tail}
use Rattle.std.proofs.lemmas.List.Sorted.{ranks_by, IsPermutation-refl, IsPermutation-cons, IsPermutation-sym, IsPermutation-middle, IsPermutation-trans, IsPermutation-append_left, IsPermutation-append_right}
use Rattle.std.proofs.lemmas.List.FromFn.{get_or-range_with_len, length-range_with_len}
use Rattle.asa_nat_order.specs.declared.keys.NatKey.{NatKey}
use Rattle.asa_nat_order.specs.Sections.{has_section, section_in, in_section, all_indexes, seat_at, seat_cmp, IsNatOrder}
use Rattle.asa_nat_order.proofs.RankLaws.{seat_total, seats_apart}
use Rattle.asa_nat_order.proofs.RisingLaws.{same_sorted}

-- just one of three
abbrev one_of : Bool → Bool → Bool → Bool
one_of p q r = (p && not q && not r) || (not p && q && not r) || (not p && not q && r)

add : {X : Type 0} (x : X) (p q r : Bool) → one_of p q r ≡ true → (xs ps qs rs : List X) → IsPermutation xs (ps ++ qs ++ rs)
    → IsPermutation (x ∷ xs) (cond p (x ∷ ps) ps ++ cond q (x ∷ qs) qs ++ cond r (x ∷ rs) rs)
add x true false false one xs ps qs rs same = IsPermutation-cons x xs (ps ++ qs ++ rs) same
add x false true false one xs ps qs rs same =
    IsPermutation-trans (x ∷ xs) (x ∷ (ps ++ qs ++ rs)) ((ps ++ x ∷ qs) ++ rs)
    (IsPermutation-cons x xs (ps ++ qs ++ rs) same)
    (IsPermutation-append_left rs (x ∷ (ps ++ qs)) (ps ++ x ∷ qs) (IsPermutation-sym _ _ (IsPermutation-middle ps x qs)))
add x false false true one xs ps qs rs same =
    IsPermutation-trans (x ∷ xs) (x ∷ (ps ++ qs ++ rs)) ((ps ++ qs) ++ x ∷ rs)
    (IsPermutation-cons x xs (ps ++ qs ++ rs) same) (IsPermutation-sym _ _ (IsPermutation-middle (ps ++ qs) x rs))
add x _ _ _ one xs ps qs rs same = absurd (cc)

three : {X : Type 0} (p q r : X → Bool) (xs : List X) → All (λ x. one_of (p x) (q x) (r x) ≡ true) xs
    → IsPermutation xs (filter p xs ++ filter q xs ++ filter r xs)
three p q r [] one = IsPermutation-refl []
three p q r (x ∷ xs) one =
    add x (p x) (q x) (r x) (All-head (λ x. one_of (p x) (q x) (r x) ≡ true) x xs one) xs _ _ _
    (three p q r xs (All-tail (λ x. one_of (p x) (q x) (r x) ≡ true) x xs one))

has_one : (s : ℕ) → nat_le 1 s && nat_le s 3 ≡ true → one_of (s == 1) (s == 2) (s == 3) ≡ true
has_one s has = grind (arith, nat_tests)

both : (a b : Bool) → a && b ≡ true → (a ≡ true) × (b ≡ true)
both true b e = (refl, e)
both false b e = absurd (cc)

-- every index has one of the sections
section_found : (keys : List NatKey) → IsTrue (list_all has_section keys) → (i : ℕ) → i < length keys
    → one_of (section_in (slice_get keys i) == 1) (section_in (slice_get keys i) == 2) (section_in (slice_get keys i) == 3) ≡ true
section_found [] all i h = absurd (omega arith)
section_found (k ∷ ks) all zero h = has_one k.section (both (has_section k) (list_all has_section ks) all).0
section_found (k ∷ ks) all (suc i) h = section_found ks (both (has_section k) (list_all has_section ks) all).1 i (omega arith)

all_found : (keys : List NatKey) → IsTrue (list_all has_section keys)
    → All (λ i. one_of (section_in (slice_get keys i) == 1) (section_in (slice_get keys i) == 2) (section_in (slice_get keys i) == 3) ≡ true) (all_indexes keys)
all_found keys all = λ k d h.
    let few : k < length keys = omega (arith, length-range_with_len 0 (length keys)) in
    let e : get_or (range_with_len 0 (length keys)) k d ≡ k = get_or-range_with_len 0 (length keys) k d few ∙ omega arith in
    rw e (section_found keys all k few)

-- an order has every index once
pub order_all : (keys : List NatKey) → IsTrue (list_all has_section keys) → (indexes : List ℕ) → IsNatOrder keys indexes → IsPermutation (all_indexes keys) indexes
order_all keys all indexes order =
    rw order.sections
    (IsPermutation-trans _ (in_section 1 keys ++ in_section 2 keys ++ in_section 3 keys) _
    (three _ _ _ (all_indexes keys) (all_found keys all))
    (IsPermutation-append_left (in_section 3 keys) _ _ (IsPermutation-append_right (in_section 1 keys) _ _ order.all)))

-- there is only one order
pub only_order : (keys : List NatKey) (xs ys : List ℕ) → IsNatOrder keys xs → IsNatOrder keys ys → xs ≡ ys
only_order keys xs ys a b =
    let same : a.objects ≡ b.objects =
    same_sorted (λ i j. is_lt (seat_cmp (seat_at keys i) (seat_at keys j))) (ranks_by seat_total (seat_at keys)) (λ i j. seats_apart (seat_at keys i) (seat_at keys j))
    (in_section 2 keys) a.objects b.objects a.all b.all a.sorted b.sorted in
    a.sections ∙ ap (λ o. in_section 1 keys ++ o ++ in_section 3 keys) same ∙ sym b.sections
