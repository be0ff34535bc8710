-- The networks of a range: they cover the range, and there are few of them.
use Rattle.std.proofs.Common.{◌≡◌, ◌==◌, ℕ, zero, suc, ◌+◌, ◌-◌, ◌%◌, ◌^◌, ◌<◌, ◌≤◌, true, false, nat_lt, nat_le, [], ◌∷◌, refl, ap, sym, ◌∙◌, arith, ⊎_elim}
use Rattle.std.proofs.lemmas.Bool.{and_parts, and_from, and_left, and_right, cases_lt, cases_Bool, false_from_ne_true}
use Rattle.std.proofs.lemmas.Bool.Decides.{nat_tests}
use Rattle.std.proofs.lemmas.Nat.{pow_pos, pow-add}
use Rattle.std.proofs.Math.Pow.{mod-mod-pow}
use Rattle.asa_base.specs.Networks.{is_prefix}
use Rattle.asa_base.specs.Prefixes.{block_fits, greatest_level, level_at, block, blocks, prefixes_between}

pub doubled : (k : ℕ) → 2 ^ (k + 1) ≡ 2 ^ k + 2 ^ k
doubled k = omega (arith, pow-add 2 k 1)

pub fits_parts : (k at end : ℕ) → block_fits k at end ≡ true → (at % 2 ^ k ≡ 0) × (at + 2 ^ k ≤ end)
fits_parts k at end h =
    let parts : ((at % 2 ^ k == 0) ≡ true) × (nat_le (at + 2 ^ k) end ≡ true) = and_parts _ _ h in
    (grind (arith, nat_tests), grind (arith, nat_tests))

pub fits_from : (k at end : ℕ) → at % 2 ^ k ≡ 0 → at + 2 ^ k ≤ end → block_fits k at end ≡ true
fits_from k at end none le =
    let aligned : (at % 2 ^ k == 0) ≡ true = grind (arith, nat_tests) in
    let within : nat_le (at + 2 ^ k) end ≡ true = grind (arith, nat_tests) in
    and_from _ _ aligned within

pub too_long : (k at end : ℕ) → end < at + 2 ^ k → block_fits k at end ≡ false
too_long k at end h =
    let beyond : nat_le (at + 2 ^ k) end ≡ false = grind (arith, nat_tests) in
    and_right _ _ beyond

pub not_aligned : (k at end : ℕ) → ¬ (at % 2 ^ k ≡ 0) → block_fits k at end ≡ false
not_aligned k at end h =
    let off : (at % 2 ^ k == 0) ≡ false = grind (arith, nat_tests) in
    and_left _ _ off

pub aligned_down : (k at : ℕ) → at % 2 ^ (k + 1) ≡ 0 → at % 2 ^ k ≡ 0
aligned_down k at h =
    let e : 1 + k ≡ k + 1 = omega arith in
    let m : at % 2 ^ (1 + k) % 2 ^ k ≡ at % 2 ^ k = mod-mod-pow at 1 k in
    let turned : at % 2 ^ (1 + k) ≡ at % 2 ^ (k + 1) = ap (λ n. at % 2 ^ n) e in
    sym m ∙ ap (λ n. n % 2 ^ k) (turned ∙ h) ∙ grind arith

fits_down : (k at end : ℕ) → block_fits (k + 1) at end ≡ true → block_fits k at end ≡ true
fits_down k at end h =
    let parts : (at % 2 ^ (k + 1) ≡ 0) × (at + 2 ^ (k + 1) ≤ end) = fits_parts (k + 1) at end h in
    fits_from k at end (aligned_down k at parts.0) (omega (arith, doubled k))

fails_up : (k at end : ℕ) → block_fits k at end ≡ false → block_fits (k + 1) at end ≡ false
fails_up k at end h = false_from_ne_true _ (λ yes. let no = fits_down k at end yes in grind arith)

-- where a block doesn't fit, no larger one does
fails_above : (d k at end : ℕ) → block_fits k at end ≡ false → block_fits (k + d) at end ≡ false
fails_above zero k at end h =
    let e : k + zero ≡ k = omega arith in
    rw e h
fails_above (suc d) k at end h =
    let e : k + suc d ≡ k + d + 1 = omega arith in
    rw e (fails_up (k + d) at end (fails_above d k at end h))

greatest_here : (m at end : ℕ) → block_fits (suc m) at end ≡ true → greatest_level (suc m) at end ≡ suc m
unfolding greatest_level
greatest_here m at end h = rw h refl

greatest_below : (m at end : ℕ) → block_fits (suc m) at end ≡ false → greatest_level (suc m) at end ≡ greatest_level m at end
unfolding greatest_level
greatest_below m at end h = rw h refl

greatest_zero : (at end : ℕ) → greatest_level zero at end ≡ 0
unfolding greatest_level
greatest_zero at end = refl

-- the greatest level is the one at which a block fits, and at the next it doesn't
pub greatest_is : (n at end k : ℕ) → k ≤ n → block_fits k at end ≡ true → (k < n → block_fits (k + 1) at end ≡ false) → greatest_level n at end ≡ k
greatest_is zero at end k le fits fails =
    let e : k ≡ 0 = omega arith in
    greatest_zero at end ∙ sym e
greatest_is (suc m) at end k le fits fails = ⊎_elim
    (λ (less : k < suc m).
    let d : k + 1 + (m - k) ≡ suc m = omega arith in
    let none : block_fits (suc m) at end ≡ false = rw (← d) (fails_above (m - k) (k + 1) at end (fails less)) in
    greatest_below m at end none ∙ greatest_is m at end k (omega arith) fits (λ l. fails less))
    (λ (more : suc m ≤ k).
    let e : k ≡ suc m = omega arith in
    let here : block_fits (suc m) at end ≡ true = rw (← e) fits in
    greatest_here m at end here ∙ sym e)
    (cases_lt k (suc m))

-- at the greatest level the block fits, where there is an address
pub greatest_fits : (n at end : ℕ) → at < end → block_fits (greatest_level n at end) at end ≡ true
greatest_fits zero at end less = rw (greatest_zero at end) (fits_from 0 at end (omega arith) (omega arith))
greatest_fits (suc m) at end less = ⊎_elim
    (λ (yes : block_fits (suc m) at end ≡ true). rw (greatest_here m at end yes) yes)
    (λ (no : block_fits (suc m) at end ≡ false). rw (greatest_below m at end no) (greatest_fits m at end less))
    (cases_Bool (block_fits (suc m) at end))

pub greatest_le : (n at end : ℕ) → greatest_level n at end ≤ n
greatest_le zero at end = omega (arith, greatest_zero at end)
greatest_le (suc m) at end = ⊎_elim
    (λ (yes : block_fits (suc m) at end ≡ true). omega (arith, greatest_here m at end yes))
    (λ (no : block_fits (suc m) at end ≡ false). omega (arith, greatest_below m at end no, greatest_le m at end))
    (cases_Bool (block_fits (suc m) at end))

-- no address, no block
pub blocks_none : (count at end : ℕ) → end ≤ at → blocks count at end ≡ []
unfolding blocks
blocks_none zero at end h = refl
blocks_none (suc count) at end h =
    let none : nat_lt at end ≡ false = grind (arith, nat_tests) in
    rw none refl

pub blocks_more : (count at end : ℕ) → at < end → blocks (suc count) at end ≡ block at (level_at at end) ∷ blocks count (at + 2 ^ level_at at end) end
unfolding blocks
blocks_more count at end h =
    let some : nat_lt at end ≡ true = grind (arith, nat_tests) in
    rw some refl

pub blocks_zero : (at end : ℕ) → blocks zero at end ≡ []
unfolding blocks
blocks_zero at end = refl

-- how many are allowed doesn't matter where it is no fewer than the addresses
blocks_same : (n m at end : ℕ) → end ≤ at + n → end ≤ at + m → blocks n at end ≡ blocks m at end
blocks_same zero m at end hn hm = blocks_zero at end ∙ sym (blocks_none m at end (omega arith))
blocks_same (suc n) zero at end hn hm = blocks_none (suc n) at end (omega arith) ∙ sym (blocks_zero at end)
blocks_same (suc n) (suc m) at end hn hm = ⊎_elim
    (λ (less : at < end).
    let level = level_at at end in
    let some = pow_pos level in
    blocks_more n at end less
    ∙ ap (λ rest. block at level ∷ rest) (blocks_same n m (at + 2 ^ level) end (omega arith) (omega arith))
    ∙ sym (blocks_more m at end less))
    (λ (none : end ≤ at). blocks_none (suc n) at end none ∙ sym (blocks_none (suc m) at end none))
    (cases_lt at end)

pub between_none : (at end : ℕ) → end ≤ at → prefixes_between at end ≡ []
unfolding prefixes_between
between_none at end h = blocks_none (end - at) at end h

-- the first network, and those of the addresses after it
pub between_more : (at end level : ℕ) → at < end → level_at at end ≡ level → prefixes_between at end ≡ block at level ∷ prefixes_between (at + 2 ^ level) end
unfolding prefixes_between
between_more at end level less e =
    let here = level_at at end in
    let some = pow_pos here in
    let n : suc (end - at - 1) ≡ end - at = omega arith in
    ap (λ k. blocks k at end) (sym n)
    ∙ blocks_more (end - at - 1) at end less
    ∙ ap (λ rest. block at here ∷ rest) (blocks_same (end - at - 1) (end - (at + 2 ^ here)) (at + 2 ^ here) end (omega arith) (omega arith))
    ∙ ap (λ l. block at l ∷ blocks (end - (at + 2 ^ l)) (at + 2 ^ l) end) e

-- a block that fits is a network
pub block_is_prefix : (at level end : ℕ) → level ≤ 32 → end ≤ 2 ^ 32 → block_fits level at end ≡ true → is_prefix at (32 - level) ≡ true
block_is_prefix at level end few low fits =
    let parts = fits_parts level at end fits in
    let e : 32 - (32 - level) ≡ level = omega arith in
    let aligned : (at % 2 ^ (32 - (32 - level)) == 0) ≡ true = rw e (grind (arith, nat_tests)) in
    let short : nat_le (32 - level) 32 ≡ true = grind (arith, nat_tests) in
    and_from _ _ short aligned
