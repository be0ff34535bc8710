-- A sorted list is determined by its elements.
use Rattle.std.proofs.Common.{◌≡◌, ℕ, suc, ◌+◌, ◌<◌, Bool, true, false, cond, List, [], ◌∷◌, length, get_or, refl, sym, subst, ◌∙◌, arith}
use Rattle.std.specs.List.{All, sum_by}
use Rattle.std.specs.List.Sorted.{IsPermutation, IsSortedBy}
use Rattle.std.specs.Cmp.{IsStrictWeakOrder}
use Rattle.std.proofs.lemmas.List.Elements.{All-head, All-tail, All-from_get_or}
use Rattle.std.proofs.lemmas.List.Sums.{sum_by-cons}
use Rattle.std.proofs.lemmas.List.Sorted.{sorted_far, sum_by-IsPermutation}

-- no element is below an earlier one
abbrev Rising : {X : Type 0} → (X → X → Bool) → List X → Type 0
Rising lt [] = Unit {0}
Rising lt (x ∷ xs) = All (λ y. lt y x ≡ false) xs × Rising lt xs

sorted_tail : {X : Type 0} (lt : X → X → Bool) (x : X) (xs : List X) → IsSortedBy lt (x ∷ xs) → IsSortedBy lt xs
sorted_tail lt x xs up = λ k d from to.
    let e : suc k + 1 ≡ suc (k + 1) = omega arith in
    let to2 : suc k + 1 < length (x ∷ xs) = omega arith in
    subst (λ n. lt (get_or (x ∷ xs) n d) (get_or (x ∷ xs) (suc k) d) ≡ false) e (up (suc k) d (omega arith) to2)

rising : {X : Type 0} (lt : X → X → Bool) → IsStrictWeakOrder lt → (xs : List X) → IsSortedBy lt xs → Rising lt xs
rising lt o [] up = tt
rising lt o (x ∷ xs) up =
    (All-from_get_or (λ y. lt y x ≡ false) xs x (λ i h. sorted_far lt o (x ∷ xs) up 0 (suc i) x (omega arith) (omega arith)), rising lt o xs (sorted_tail lt x xs up))

-- they have the same elements, each as often
abbrev Alike : {X : Type 0} → List X → List X → Type 0
Alike {X} xs ys = (f : X → ℕ) → sum_by f xs ≡ sum_by f ys

-- 1 for an element below another, and else 0
abbrev below : {X : Type 0} → (X → X → Bool) → X → X → ℕ
below lt b x = cond (lt x b) 1 0

none_below : {X : Type 0} (lt : X → X → Bool) (b : X) (ys : List X) → All (λ y. lt y b ≡ false) ys → sum_by (below lt b) ys ≡ 0
none_below lt b [] all = refl
none_below lt b (y ∷ ys) all =
    let here : lt y b ≡ false = All-head (λ y. lt y b ≡ false) y ys all in
    let rest = none_below lt b ys (All-tail (λ y. lt y b ≡ false) y ys all) in
    rw (sum_by-cons (below lt b) y ys, here, rest)

not_below : (v : Bool) → cond {A = ℕ} v 1 0 ≡ 0 → v ≡ false
not_below true e = absurd (omega arith)
not_below false e = refl

-- the first of one list isn't below the first of the other
heads : {X : Type 0} (lt : X → X → Bool) → ((x : X) → lt x x ≡ false) → (x : X) (xs : List X) (y : X) (ys : List X)
    → Alike (x ∷ xs) (y ∷ ys) → Rising lt (y ∷ ys) → lt x y ≡ false
heads lt own x xs y ys alike up =
    let zero_there = none_below lt y ys up.0 in
    let f = below lt y in
    let at_y : below lt y y ≡ 0 = rw (own y) in
    let e1 = sum_by-cons (below lt y) x xs in
    let e2 = sum_by-cons (below lt y) y ys in
    let e3 = alike (below lt y) in
    let e : below lt y x ≡ 0 = omega (arith, zero_there, at_y, e1, e2, e3) in
    not_below (lt x y) e

alike_tails : {X : Type 0} (x : X) (xs ys : List X) → Alike (x ∷ xs) (x ∷ ys) → Alike xs ys
alike_tails x xs ys alike = λ f.
    let e1 = sum_by-cons f x xs in
    let e2 = sum_by-cons f x ys in
    let e3 = alike f in
    omega (arith, e1, e2, e3)

same_rising : {X : Type 0} (lt : X → X → Bool) → ((x : X) → lt x x ≡ false) → ((x y : X) → lt x y ≡ false → lt y x ≡ false → x ≡ y)
    → (xs ys : List X) → Alike xs ys → Rising lt xs → Rising lt ys → xs ≡ ys
same_rising lt own ties [] [] alike up1 up2 = refl
same_rising {X} lt own ties [] (y ∷ ys) alike up1 up2 =
    let one : X → ℕ = λ z. 1 in
    let e1 = sum_by-cons one y ys in
    let e2 = alike one in
    absurd (omega (arith, e1, e2))
same_rising {X} lt own ties (x ∷ xs) [] alike up1 up2 =
    let one : X → ℕ = λ z. 1 in
    let e1 = sum_by-cons one x xs in
    let e2 = alike one in
    absurd (omega (arith, e1, e2))
same_rising lt own ties (x ∷ xs) (y ∷ ys) alike up1 up2 =
    let e : x ≡ y = ties x y (heads lt own x xs y ys alike up2) (heads lt own y ys x xs (λ f. sym (alike f)) up1) in
    let alike2 : Alike (x ∷ xs) (x ∷ ys) = subst (λ z. Alike (x ∷ xs) (z ∷ ys)) (sym e) alike in
    let rest = same_rising lt own ties xs ys (alike_tails x xs ys alike2) up1.1 up2.1 in
    rw (e, rest)

never : (b : Bool) → (b ≡ true → b ≡ false) → b ≡ false
never true h = h refl
never false h = refl

-- two sorted lists of the same elements are equal
pub same_sorted : {X : Type 0} (lt : X → X → Bool) → IsStrictWeakOrder lt → ((x y : X) → lt x y ≡ false → lt y x ≡ false → x ≡ y)
    → (all xs ys : List X) → IsPermutation all xs → IsPermutation all ys → IsSortedBy lt xs → IsSortedBy lt ys → xs ≡ ys
same_sorted lt o ties all xs ys p q up1 up2 =
    same_rising lt (λ x. never (lt x x) (o.one_way x x)) ties xs ys (λ f. sum_by-IsPermutation f all xs p ∙ sym (sum_by-IsPermutation f all ys q)) (rising lt o xs up1) (rising lt o ys up2)
